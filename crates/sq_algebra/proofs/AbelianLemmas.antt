-- The laws of abelian groups, of their multiples and sums, and of additive maps.
use Rattle.std.proofs.Common.{◌≡◌, ℕ, zero, suc, ◌+◌, List, [], ◌∷◌, ◌++◌, map, Bool, true, false, cond, ℤ, pos, negsuc, ◌+ℤ◌, ◌*ℤ◌, neg_ℤ, filter, refl, sym, ap, ap₂, ◌∙◌, arith, zero-add, suc-add, suc-mul, zero-mul, mul-zero}
use Rattle.std.specs.List.{All, flat_map}
use borrow.Author.Differences.{ints, up, down, sum_is_lem}
use Rattle.sq_algebra.specs.Groups.{AbelianGroup, IsAbelian, integers, pairs_of, functions_to, minus, multiple, times, sum_over, IsAdditive}

pub integers-IsAbelian : IsAbelian integers
integers-IsAbelian = record {
  associative = λ a b c. omega (arith, ints);
  commutative = λ a b. omega (arith, ints);
  neutral = λ a. omega (arith, ints);
  inverse = λ a. omega (arith, ints);
}

pub zero-times : (n : ℤ) → pos 0 *ℤ n ≡ pos 0
zero-times n = omega (arith, ints, zero-mul (up n), zero-mul (down n))

pub times-unit : (n : ℤ) → n *ℤ pos 1 ≡ n
times-unit n = omega (arith, ints, mul-zero (up n), mul-zero (down n))

pub suc-times : (m : ℕ) (n : ℤ) → n +ℤ pos m *ℤ n ≡ pos (suc m) *ℤ n
suc-times m n = omega (arith, ints, suc-mul m (up n), suc-mul m (down n), zero-mul (up n), zero-mul (down n))

pub negsuc-times : (m : ℕ) (n : ℤ) → neg_ℤ (pos (suc m) *ℤ n) ≡ negsuc m *ℤ n
negsuc-times m n = omega (arith, ints, zero-mul (up n), zero-mul (down n))

-- ---- what follows from the laws
module _ {A : Type 0} (G : AbelianGroup A) (laws : IsAbelian G) where
  pub neutral_right : (a : A) → G.plus a G.zero ≡ a
  neutral_right a = laws.commutative a G.zero ∙ laws.neutral a

  pub inverse_left : (a : A) → G.plus (G.negate a) a ≡ G.zero
  inverse_left a = laws.commutative (G.negate a) a ∙ laws.inverse a

  -- the middle two of four summands change places
  pub interchange : (a b c d : A) → G.plus (G.plus a b) (G.plus c d) ≡ G.plus (G.plus a c) (G.plus b d)
  interchange a b c d =
      laws.associative a b (G.plus c d)
      ∙ ap (G.plus a) (sym (laws.associative b c d) ∙ ap (λ x. G.plus x d) (laws.commutative b c) ∙ laws.associative c b d)
      ∙ sym (laws.associative a c (G.plus b d))

  -- the first two of three summands change places
  pub plus_swap : (a b c : A) → G.plus a (G.plus b c) ≡ G.plus b (G.plus a c)
  plus_swap a b c = sym (laws.associative a b c) ∙ ap (λ x. G.plus x c) (laws.commutative a b) ∙ laws.associative b a c

  -- what is added on the left falls away
  pub plus_back : (a b : A) → G.plus (G.negate a) (G.plus a b) ≡ b
  plus_back a b = sym (laws.associative (G.negate a) a b) ∙ ap (λ x. G.plus x b) (inverse_left a) ∙ laws.neutral b

  -- (a + b) - a = b
  pub plus-minus_left : (a b : A) → minus G (G.plus a b) a ≡ b
  plus-minus_left a b = laws.commutative (G.plus a b) (G.negate a) ∙ plus_back a b

  -- (a + b) - b = a
  pub plus-minus_right : (a b : A) → minus G (G.plus a b) b ≡ a
  plus-minus_right a b = laws.associative a b (G.negate b) ∙ ap (G.plus a) (laws.inverse b) ∙ neutral_right a

  -- a + (b - a) = b
  pub plus-minus_back : (a b : A) → G.plus a (minus G b a) ≡ b
  plus-minus_back a b =
      ap (G.plus a) (laws.commutative b (G.negate a)) ∙ sym (laws.associative a (G.negate a) b) ∙ ap (λ x. G.plus x b) (laws.inverse a) ∙ laws.neutral b

  -- equal sums with one summand the same have the other the same
  pub cancel : (a b c : A) → G.plus a b ≡ G.plus a c → b ≡ c
  cancel a b c same = sym (plus_back a b) ∙ ap (G.plus (G.negate a)) same ∙ plus_back a c

  -- what adds up with a to zero is the negation of a
  pub negate_from : (a b : A) → G.plus a b ≡ G.zero → b ≡ G.negate a
  negate_from a b none = cancel a b (G.negate a) (none ∙ sym (laws.inverse a))

  pub negate-zero : G.negate G.zero ≡ G.zero
  negate-zero = sym (negate_from G.zero G.zero (laws.neutral G.zero))

  pub negate-negate : (a : A) → G.negate (G.negate a) ≡ a
  negate-negate a = sym (negate_from (G.negate a) a (inverse_left a))

  pub negate-plus : (a b : A) → G.negate (G.plus a b) ≡ G.plus (G.negate a) (G.negate b)
  negate-plus a b = sym (negate_from (G.plus a b) (G.plus (G.negate a) (G.negate b)) (interchange a b (G.negate a) (G.negate b) ∙ ap₂ G.plus (laws.inverse a) (laws.inverse b) ∙ laws.neutral G.zero))

  pub minus-self : (a : A) → minus G a a ≡ G.zero
  minus-self a = laws.inverse a

  pub minus-zero : (a : A) → minus G a G.zero ≡ a
  minus-zero a = ap (G.plus a) negate-zero ∙ neutral_right a

  -- the difference of sums is the sum of differences
  pub minus-plus : (a b c d : A) → minus G (G.plus a b) (G.plus c d) ≡ G.plus (minus G a c) (minus G b d)
  minus-plus a b c d = ap (G.plus (G.plus a b)) (negate-plus c d) ∙ interchange a b (G.negate c) (G.negate d)

  -- (a - b) + (b - c) = a - c
  pub minus-chain : (a b c : A) → G.plus (minus G a b) (minus G b c) ≡ minus G a c
  minus-chain a b c =
      laws.associative a (G.negate b) (minus G b c) ∙ ap (G.plus a) (plus_back b (G.negate c))

  -- what is added on both sides falls away
  pub minus-plus_same : (a b c : A) → minus G (G.plus a c) (G.plus b c) ≡ minus G a b
  minus-plus_same a b c = minus-plus a c b c ∙ ap (G.plus (minus G a b)) (laws.inverse c) ∙ neutral_right (minus G a b)

  -- equal crossed sums have equal differences
  pub same_minus : (a b c d : A) → G.plus a d ≡ G.plus c b → minus G a b ≡ minus G c d
  same_minus a b c d same =
      sym (minus-plus_same a b d)
      ∙ (λ i. minus G (same i) (laws.commutative b d i))
      ∙ minus-plus_same c d b

  -- a difference of zero
  pub same_from_minus : (a b : A) → minus G a b ≡ G.zero → a ≡ b
  same_from_minus a b none = sym (plus-minus_back b a) ∙ ap (G.plus b) none ∙ neutral_right b

  -- ---- multiples
  pub multiple-plus : (m n : ℕ) (a : A) → multiple G (m + n) a ≡ G.plus (multiple G m a) (multiple G n a)
  multiple-plus zero n a = rw zero-add (sym (laws.neutral (multiple G n a)))
  multiple-plus (suc m) n a = rw suc-add (ap (G.plus a) (multiple-plus m n a) ∙ sym (laws.associative a (multiple G m a) (multiple G n a)))

  -- a whole multiple, as the difference of its two parts
  times_is : (n : ℤ) (a : A) → times G n a ≡ minus G (multiple G (up n) a) (multiple G (down n) a)
  times_is (pos n) a = sym (minus-zero (multiple G n a))
  times_is (negsuc n) a = sym (laws.neutral (G.negate (multiple G (suc n) a)))

  pub times-zero : (a : A) → times G (pos 0) a ≡ G.zero
  times-zero a = refl

  pub times-one : (a : A) → times G (pos 1) a ≡ a
  times-one a = neutral_right a

  -- a sum of multiples
  pub times-sum : (m n : ℤ) (a : A) → times G (m +ℤ n) a ≡ G.plus (times G m a) (times G n a)
  times-sum m n a =
      times_is (m +ℤ n) a
      ∙ same_minus (multiple G (up (m +ℤ n)) a) (multiple G (down (m +ℤ n)) a) (multiple G (up m + up n) a) (multiple G (down m + down n) a)
      (sym (multiple-plus (up (m +ℤ n)) (down m + down n) a) ∙ ap (λ k. multiple G k a) (omega (arith, sum_is_lem m n)) ∙ multiple-plus (up m + up n) (down (m +ℤ n)) a)
      ∙ ap₂ (minus G) (multiple-plus (up m) (up n) a) (multiple-plus (down m) (down n) a)
      ∙ minus-plus (multiple G (up m) a) (multiple G (up n) a) (multiple G (down m) a) (multiple G (down n) a)
      ∙ sym (ap₂ G.plus (times_is m a) (times_is n a))

  pub times-negation : (n : ℤ) (a : A) → times G (neg_ℤ n) a ≡ G.negate (times G n a)
  times-negation n a = negate_from (times G n a) (times G (neg_ℤ n) a) (sym (times-sum n (neg_ℤ n) a) ∙ ap (λ k. times G k a) (integers-IsAbelian.inverse n))

  multiple_of_zero : (n : ℕ) → multiple G n G.zero ≡ G.zero
  multiple_of_zero zero = refl
  multiple_of_zero (suc n) = laws.neutral (multiple G n G.zero) ∙ multiple_of_zero n

  pub times_of_zero : (n : ℤ) → times G n G.zero ≡ G.zero
  times_of_zero (pos n) = multiple_of_zero n
  times_of_zero (negsuc n) = ap G.negate (multiple_of_zero (suc n)) ∙ negate-zero

  multiple-of_plus : (n : ℕ) (a b : A) → multiple G n (G.plus a b) ≡ G.plus (multiple G n a) (multiple G n b)
  multiple-of_plus zero a b = sym (laws.neutral G.zero)
  multiple-of_plus (suc n) a b = ap (G.plus (G.plus a b)) (multiple-of_plus n a b) ∙ interchange a b (multiple G n a) (multiple G n b)

  -- the multiple of a sum
  pub times-plus : (n : ℤ) (a b : A) → times G n (G.plus a b) ≡ G.plus (times G n a) (times G n b)
  times-plus (pos n) a b = multiple-of_plus n a b
  times-plus (negsuc n) a b = ap G.negate (multiple-of_plus (suc n) a b) ∙ negate-plus (multiple G (suc n) a) (multiple G (suc n) b)

  pub times-IsAdditive : (n : ℤ) → IsAdditive G G (times G n)
  times-IsAdditive n = record { of_plus = times-plus n }

  pub negate-IsAdditive : IsAdditive G G G.negate
  negate-IsAdditive = record { of_plus = negate-plus }

  -- the multiple of a multiple
  times-times_up : (m : ℕ) (n : ℤ) (a : A) → multiple G m (times G n a) ≡ times G (pos m *ℤ n) a
  times-times_up zero n a = ap (λ k. times G k a) (sym (zero-times n))
  times-times_up (suc m) n a =
      ap (G.plus (times G n a)) (times-times_up m n a)
      ∙ sym (times-sum n (pos m *ℤ n) a)
      ∙ ap (λ k. times G k a) (suc-times m n)

  pub times-times : (m n : ℤ) (a : A) → times G m (times G n a) ≡ times G (m *ℤ n) a
  times-times (pos m) n a = times-times_up m n a
  times-times (negsuc m) n a = ap G.negate (times-times_up (suc m) n a) ∙ sym (times-negation (pos (suc m) *ℤ n) a) ∙ ap (λ k. times G k a) (negsuc-times m n)

-- ---- pairs and functions
pub pairs_of-IsAbelian : {A B : Type 0} (G : AbelianGroup A) (H : AbelianGroup B) → IsAbelian G → IsAbelian H → IsAbelian (pairs_of G H)
pairs_of-IsAbelian G H left right = record {
  associative = λ x y z i. (left.associative x.0 y.0 z.0 i, right.associative x.1 y.1 z.1 i);
  commutative = λ x y i. (left.commutative x.0 y.0 i, right.commutative x.1 y.1 i);
  neutral = λ x i. (left.neutral x.0 i, right.neutral x.1 i);
  inverse = λ x i. (left.inverse x.0 i, right.inverse x.1 i);
}

pub functions_to-IsAbelian : (X : Type 0) {A : Type 0} (G : AbelianGroup A) → IsAbelian G → IsAbelian (functions_to X G)
functions_to-IsAbelian X G laws = record {
  associative = λ f g h i x. laws.associative (f x) (g x) (h x) i;
  commutative = λ f g i x. laws.commutative (f x) (g x) i;
  neutral = λ f i x. laws.neutral (f x) i;
  inverse = λ f i x. laws.inverse (f x) i;
}

-- ---- additive maps
module _ {A : Type 0} (G : AbelianGroup A) {B : Type 0} (H : AbelianGroup B) (laws : IsAbelian G) (others : IsAbelian H) (f : A → B) (additive : IsAdditive G H f) where
  pub additive-zero : f G.zero ≡ H.zero
  additive-zero = sym (cancel H others (f G.zero) H.zero (f G.zero) (neutral_right H others (f G.zero) ∙ ap f (sym (laws.neutral G.zero)) ∙ additive.of_plus G.zero G.zero))

  pub additive-negate : (a : A) → f (G.negate a) ≡ H.negate (f a)
  additive-negate a = negate_from H others (f a) (f (G.negate a)) (sym (additive.of_plus a (G.negate a)) ∙ ap f (laws.inverse a) ∙ additive-zero)

  pub additive-minus : (a b : A) → f (minus G a b) ≡ minus H (f a) (f b)
  additive-minus a b = additive.of_plus a (G.negate b) ∙ ap (H.plus (f a)) (additive-negate b)

  additive-multiple : (n : ℕ) (a : A) → f (multiple G n a) ≡ multiple H n (f a)
  additive-multiple zero a = additive-zero
  additive-multiple (suc n) a = additive.of_plus a (multiple G n a) ∙ ap (H.plus (f a)) (additive-multiple n a)

  pub additive-times : (n : ℤ) (a : A) → f (times G n a) ≡ times H n (f a)
  additive-times (pos n) a = additive-multiple n a
  additive-times (negsuc n) a = additive-negate (multiple G (suc n) a) ∙ ap H.negate (additive-multiple (suc n) a)

  pub additive-sum_over : {X : Type 0} (g : X → A) (xs : List X) → f (sum_over G g xs) ≡ sum_over H (λ x. f (g x)) xs
  additive-sum_over g [] = additive-zero
  additive-sum_over g (x ∷ xs) = additive.of_plus (g x) (sum_over G g xs) ∙ ap (H.plus (f (g x))) (additive-sum_over g xs)

pub IsAdditive-identity : {A : Type 0} (G : AbelianGroup A) → IsAdditive G G (λ a. a)
IsAdditive-identity G = record { of_plus = λ a b. refl }

pub IsAdditive_same : {A B : Type 0} (G : AbelianGroup A) (H : AbelianGroup B) (f g : A → B) → ((a : A) → f a ≡ g a) → IsAdditive G H g → IsAdditive G H f
IsAdditive_same G H f g same additive = record { of_plus = λ a b. same (G.plus a b) ∙ additive.of_plus a b ∙ sym (ap₂ H.plus (same a) (same b)) }

pub IsAdditive-compose : {A B C : Type 0} (G : AbelianGroup A) (H : AbelianGroup B) (F : AbelianGroup C) (f : A → B) (g : B → C) → IsAdditive G H f → IsAdditive H F g → IsAdditive G F (λ a. g (f a))
IsAdditive-compose G H F f g first second = record { of_plus = λ a b. ap g (first.of_plus a b) ∙ second.of_plus (f a) (f b) }

module _ {A : Type 0} (G : AbelianGroup A) {B : Type 0} (H : AbelianGroup B) (others : IsAbelian H) where
  pub IsAdditive-zero : IsAdditive G H (λ _. H.zero)
  IsAdditive-zero = record { of_plus = λ a b. sym (others.neutral H.zero) }

  pub IsAdditive-plus : (f g : A → B) → IsAdditive G H f → IsAdditive G H g → IsAdditive G H (λ a. H.plus (f a) (g a))
  IsAdditive-plus f g left right = record { of_plus = λ a b. ap₂ H.plus (left.of_plus a b) (right.of_plus a b) ∙ interchange H others (f a) (f b) (g a) (g b) }

  pub IsAdditive-negate : (f : A → B) → IsAdditive G H f → IsAdditive G H (λ a. H.negate (f a))
  IsAdditive-negate f additive = IsAdditive-compose G H H f H.negate additive (negate-IsAdditive H others)

-- the change of a map that is additive in each of two places
pub bilinear_change : {A B C : Type 0} (G : AbelianGroup A) (H : AbelianGroup B) (F : AbelianGroup C) (laws : IsAbelian F) (f : A → B → C) → ((b : B) → IsAdditive G F (λ a. f a b)) → ((a : A) → IsAdditive H F (f a)) → (a da : A) (b db : B) → minus F (f (G.plus a da) (H.plus b db)) (f a b) ≡ F.plus (F.plus (f a db) (f da b)) (f da db)
bilinear_change G H F laws f left right a da b db =
    ap (λ c. minus F c (f a b))
    ((left (H.plus b db)).of_plus a da
    ∙ ap₂ F.plus ((right a).of_plus b db) ((right da).of_plus b db)
    ∙ laws.associative (f a b) (f a db) (F.plus (f da b) (f da db)))
    ∙ plus-minus_left F laws (f a b) (F.plus (f a db) (F.plus (f da b) (f da db)))
    ∙ sym (laws.associative (f a db) (f da b) (f da db))

-- ---- sums over lists
module _ {A : Type 0} (G : AbelianGroup A) {X : Type 0} where
  pub sum_over_agree : (f g : X → A) → ((x : X) → f x ≡ g x) → (xs : List X) → sum_over G f xs ≡ sum_over G g xs
  sum_over_agree f g same [] = refl
  sum_over_agree f g same (x ∷ xs) = λ i. G.plus (same x i) (sum_over_agree f g same xs i)

  -- two functions that agree at the members of a list
  pub sum_over_agree_at : (f g : X → A) (xs : List X) → All (λ x. f x ≡ g x) xs → sum_over G f xs ≡ sum_over G g xs
  sum_over_agree_at f g [] same = refl
  sum_over_agree_at f g (x ∷ xs) same = λ i. G.plus (same 0 x (omega arith) i) (sum_over_agree_at f g xs (λ k d l. same (suc k) d (omega arith)) i)

  pub sum_over-map : {Y : Type 0} (f : X → A) (g : Y → X) (ys : List Y) → sum_over G f (map g ys) ≡ sum_over G (λ y. f (g y)) ys
  sum_over-map f g [] = refl
  sum_over-map f g (y ∷ ys) = ap (G.plus (f (g y))) (sum_over-map f g ys)

  module _ (laws : IsAbelian G) where
    pub sum_over-append : (f : X → A) (xs ys : List X) → sum_over G f (xs ++ ys) ≡ G.plus (sum_over G f xs) (sum_over G f ys)
    sum_over-append f [] ys = sym (laws.neutral (sum_over G f ys))
    sum_over-append f (x ∷ xs) ys = ap (G.plus (f x)) (sum_over-append f xs ys) ∙ sym (laws.associative (f x) (sum_over G f xs) (sum_over G f ys))

    pub sum_over-flat_map : {Y : Type 0} (f : X → A) (g : Y → List X) (ys : List Y) → sum_over G f (flat_map g ys) ≡ sum_over G (λ y. sum_over G f (g y)) ys
    sum_over-flat_map f g [] = refl
    sum_over-flat_map f g (y ∷ ys) = sum_over-append f (g y) (flat_map g ys) ∙ ap (G.plus (sum_over G f (g y))) (sum_over-flat_map f g ys)

    pub sum_over-filter : (f : X → A) (p : X → Bool) (xs : List X) → sum_over G f (filter p xs) ≡ sum_over G (λ x. cond (p x) (f x) G.zero) xs
    sum_over-filter f p [] = refl
    sum_over-filter f p (x ∷ xs) =
        elim (p x) as (λ b. sum_over G f (cond b (x ∷ filter p xs) (filter p xs)) ≡ G.plus (cond b (f x) G.zero) (sum_over G f (filter p xs))) [
          | true ↦ refl
          | false ↦ sym (laws.neutral (sum_over G f (filter p xs)))
        ]
        ∙ ap (G.plus (cond (p x) (f x) G.zero)) (sum_over-filter f p xs)

    pub sum_over-zero : (xs : List X) → sum_over G (λ _. G.zero) xs ≡ G.zero
    sum_over-zero [] = refl
    sum_over-zero (x ∷ xs) = laws.neutral (sum_over G (λ _. G.zero) xs) ∙ sum_over-zero xs

    pub sum_over_zero_at : (f : X → A) (xs : List X) → All (λ x. f x ≡ G.zero) xs → sum_over G f xs ≡ G.zero
    sum_over_zero_at f xs none = sum_over_agree_at f (λ _. G.zero) xs none ∙ sum_over-zero xs

    pub sum_over-plus : (f g : X → A) (xs : List X) → sum_over G (λ x. G.plus (f x) (g x)) xs ≡ G.plus (sum_over G f xs) (sum_over G g xs)
    sum_over-plus f g [] = sym (laws.neutral G.zero)
    sum_over-plus f g (x ∷ xs) = ap (G.plus (G.plus (f x) (g x))) (sum_over-plus f g xs) ∙ interchange G laws (f x) (g x) (sum_over G f xs) (sum_over G g xs)

    pub sum_over-negate : (f : X → A) (xs : List X) → sum_over G (λ x. G.negate (f x)) xs ≡ G.negate (sum_over G f xs)
    sum_over-negate f xs = sym (additive-sum_over G G laws laws G.negate (negate-IsAdditive G laws) f xs)

    pub sum_over-minus : (f g : X → A) (xs : List X) → sum_over G (λ x. minus G (f x) (g x)) xs ≡ minus G (sum_over G f xs) (sum_over G g xs)
    sum_over-minus f g xs = sum_over-plus f (λ x. G.negate (g x)) xs ∙ ap (G.plus (sum_over G f xs)) (sum_over-negate g xs)

    pub sum_over-times : (n : ℤ) (f : X → A) (xs : List X) → sum_over G (λ x. times G n (f x)) xs ≡ times G n (sum_over G f xs)
    sum_over-times n f xs = sym (additive-sum_over G G laws laws (times G n) (times-IsAdditive G laws n) f xs)

    -- the two sums of a double sum change places
    pub sum_over-swap : {Y : Type 0} (f : X → Y → A) (xs : List X) (ys : List Y) → sum_over G (λ x. sum_over G (f x) ys) xs ≡ sum_over G (λ y. sum_over G (λ x. f x y) xs) ys
    sum_over-swap f xs [] = sum_over-zero xs
    sum_over-swap f xs (y ∷ ys) = sum_over-plus (λ x. f x y) (λ x. sum_over G (f x) ys) xs ∙ ap (G.plus (sum_over G (λ x. f x y) xs)) (sum_over-swap f xs ys)
