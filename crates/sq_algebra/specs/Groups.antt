-- Abelian groups over a type, their multiples and sums, and the maps that keep their addition.
--     AbelianGroup A     zero, plus and negate over A.      IsAbelian G     the laws of an abelian group hold of them
--     minus G a b        the difference.                    times G n a     the multiple of a by the whole number n
--     sum_over G f xs    the sum of what f gives for the members of a list
--     IsAdditive G H f   f takes sums of G to sums of H
--     AreAdditive G H part     so does each map of a family
--     IsHomomorphism G H f     f is additive and goes from an abelian group to an abelian group
--     IsBilinear G H F f       f is additive in each of two places and goes to an abelian group
--     change_of H G f a d      the change of f a by the change d of a
--     integers, z_sets R     the whole numbers, and the Z-sets over keys in the order R, with their addition
--     pairs_of G H, functions_to X G      pairs, and functions, of members of groups, with their addition part by part and place by place
use Rattle.std.specs.Prelude.{◌≡◌, ℕ, zero, suc, List, [], ◌∷◌, ℤ, pos, negsuc, ◌+ℤ◌, neg_ℤ}
use Rattle.std.specs.declared.cmp.Ordering.{Ordering}
use Rattle.sq_algebra.specs.ZSet.{ZSet, zero as no_keys, plus as plus_keys, negate as negate_keys}

-- an addition over a type, with its zero and its negation
pub record AbelianGroup (A : Type 0) : Type 0 where
  pub zero : A
  pub plus : A → A → A
  pub negate : A → A

-- the laws of an abelian group
pub record IsAbelian {A : Type 0} (G : AbelianGroup A) : Type 0 where
  pub associative : (a b c : A) → G.plus (G.plus a b) c ≡ G.plus a (G.plus b c)
  pub commutative : (a b : A) → G.plus a b ≡ G.plus b a
  pub neutral : (a : A) → G.plus G.zero a ≡ a
  pub inverse : (a : A) → G.plus a (G.negate a) ≡ G.zero

-- the whole numbers
abbrev pub integers : AbelianGroup ℤ
integers = record { zero = pos 0; plus = λ m n. m +ℤ n; negate = λ n. neg_ℤ n }

-- the Z-sets over keys in the order R
abbrev pub z_sets : {K : Type 0} (R : K → K → Ordering) → AbelianGroup (ZSet K R)
z_sets R = record { zero = no_keys R; plus = λ y z. plus_keys y z; negate = λ z. negate_keys z }

-- the pairs of members of two groups, part by part
abbrev pub pairs_of : {A B : Type 0} → AbelianGroup A → AbelianGroup B → AbelianGroup (A × B)
pairs_of G H = record { zero = (G.zero, H.zero); plus = λ x y. (G.plus x.0 y.0, H.plus x.1 y.1); negate = λ x. (G.negate x.0, H.negate x.1) }

-- the functions into a group, place by place
abbrev pub functions_to : (X : Type 0) {A : Type 0} → AbelianGroup A → AbelianGroup (X → A)
functions_to X G = record { zero = λ x. G.zero; plus = λ f g x. G.plus (f x) (g x); negate = λ f x. G.negate (f x) }

module _ {A : Type 0} (G : AbelianGroup A) where
  -- the difference
  abbrev pub minus : A → A → A
  minus a b = G.plus a (G.negate b)

  -- a added n times to zero
  abbrev pub multiple : ℕ → A → A
  multiple zero a = G.zero
  multiple (suc n) a = G.plus a (multiple n a)

  -- the multiple of a by a whole number
  abbrev pub times : ℤ → A → A
  times (pos n) a = multiple n a
  times (negsuc n) a = G.negate (multiple (suc n) a)

-- the sum of what f gives for the members of a list
abbrev pub sum_over : {A : Type 0} → AbelianGroup A → {X : Type 0} → (X → A) → List X → A
sum_over G f [] = G.zero
sum_over G f (x ∷ xs) = G.plus (f x) (sum_over G f xs)

-- f takes sums of G to sums of H
pub record IsAdditive {A : Type 0} (G : AbelianGroup A) {B : Type 0} (H : AbelianGroup B) (f : A → B) : Type 0 where
  pub of_plus : (a b : A) → f (G.plus a b) ≡ H.plus (f a) (f b)

-- each map of a family takes sums of G to sums of H
abbrev pub AreAdditive : {A : Type 0} → AbelianGroup A → {B : Type 0} → AbelianGroup B → {C : Type 0} → (C → A → B) → Type 0
AreAdditive G H {C} part = (c : C) → IsAdditive G H (part c)

-- an additive map between abelian groups
pub record IsHomomorphism {A : Type 0} (G : AbelianGroup A) {B : Type 0} (H : AbelianGroup B) (f : A → B) : Type 0 where
  pub from : IsAbelian G
  pub to : IsAbelian H
  pub additive : IsAdditive G H f

-- a map to an abelian group that is additive in each of two places
pub record IsBilinear {A : Type 0} (G : AbelianGroup A) {B : Type 0} (H : AbelianGroup B) {C : Type 0} (F : AbelianGroup C) (f : A → B → C) : Type 0 where
  pub laws : IsAbelian F
  pub left : (b : B) → IsAdditive G F (λ a. f a b)
  pub right : (a : A) → IsAdditive H F (f a)

-- the change of what f gives when d is added
abbrev pub change_of : {A : Type 0} → AbelianGroup A → {B : Type 0} → AbelianGroup B → (A → B) → A → A → B
change_of H G f a d = minus G (f (H.plus a d)) (f a)
