-- Sums over lists, one place of which changes, and how often a number stands in a list.
use Rattle.std.proofs.Common.{◌≡◌, ℕ, zero, suc, ◌+◌, ◌<◌, ◌≤◌, ◌==◌, true, false, List, [], ◌∷◌, ◌++◌, length, set, if◌then◌else◌, refl, sym, ap, subst, arith, eq-eqb, ne_eqb, slice_index}
use Rattle.std.specs.List.{AllByRecursion}
use Rattle.std.specs.List.Sorted.{IsStrictlyIncreasing}
use mathlib.Core.Option.{some, some-injective, some-ne-none}
use mathlib.Core.Logic.{dite}
use native.Mathlib.Decide.{ℕ_discrete}
use lib.ListN.{get_elem?}
use Rattle.sq_claims.specs.Claims.{total, times}
use Rattle.sq_claims.specs.Hands.{once_below}

module _ {A : Type 0} where
  pub total_set : (f : A → ℕ) (xs : List A) (i : ℕ) (v w : A) → get_elem? xs i ≡ some v → total f (set xs i w) + f v ≡ total f xs + f w
  total_set f [] i v w at = absurd (some-ne-none v (sym at))
  total_set f (x ∷ xs) zero v w at = let e = ap f (some-injective x v at) in omega (arith, e)
  total_set f (x ∷ xs) (suc i) v w at = omega (arith, total_set f xs i v w at)

  pub total_append : (f : A → ℕ) (xs ys : List A) → total f (xs ++ ys) ≡ total f xs + total f ys
  total_append f [] ys = omega arith
  total_append f (x ∷ xs) ys = omega (arith, total_append f xs ys)

  pub total_at : (f : A → ℕ) (xs : List A) (i : ℕ) (v : A) → get_elem? xs i ≡ some v → f v ≤ total f xs
  total_at f [] i v at = absurd (some-ne-none v (sym at))
  total_at f (x ∷ xs) zero v at = let e = ap f (some-injective x v at) in omega (arith, e)
  total_at f (x ∷ xs) (suc i) v at = omega (arith, total_at f xs i v at)

  -- where one has the whole of g, and f is nothing where g is, one has the whole of f
  pub total_none : (f g : A → ℕ) (xs : List A) → AllByRecursion (λ x. g x ≡ 0 → f x ≡ 0) xs → total g xs ≡ 0 → total f xs ≡ 0
  total_none f g [] all none = refl
  total_none f g (x ∷ xs) all none = let a = all.0 (omega arith) in omega (arith, a, total_none f g xs all.1 (omega arith))

  pub total_alone : (f g : A → ℕ) (xs : List A) (i : ℕ) (v : A) → AllByRecursion (λ x. g x ≡ 0 → f x ≡ 0) xs → get_elem? xs i ≡ some v → g v ≡ total g xs → total f xs ≡ f v
  total_alone f g [] i v all at whole = absurd (some-ne-none v (sym at))
  total_alone f g (x ∷ xs) zero v all at whole =
      let e = some-injective x v at in
      let r : total g xs ≡ 0 = let q = ap g e in omega (arith, q, whole) in
      let n = total_none f g xs all.1 r in
      let q = ap f e in omega (arith, q, n)
  total_alone f g (x ∷ xs) (suc i) v all at whole =
      let le = total_at g xs i v at in
      let n = all.0 (omega (arith, le, whole)) in
      let r = total_alone f g xs i v all.1 at (omega (arith, le, whole)) in omega (arith, n, r)

  pub total_le : (f g : A → ℕ) (xs : List A) → AllByRecursion (λ x. f x ≤ g x) xs → total f xs ≤ total g xs
  total_le f g [] all = omega arith
  total_le f g (x ∷ xs) all = let a = all.0 in omega (arith, a, total_le f g xs all.1)

  module _ (P : A → Type 0) where
    pub each_at : (xs : List A) (i : ℕ) (v : A) → AllByRecursion P xs → get_elem? xs i ≡ some v → P v
    each_at [] i v all at = absurd (some-ne-none v (sym at))
    each_at (x ∷ xs) zero v all at = subst P (some-injective x v at) all.0
    each_at (x ∷ xs) (suc i) v all at = each_at xs i v all.1 at

    pub each_set : (xs : List A) (i : ℕ) (w : A) → AllByRecursion P xs → P w → AllByRecursion P (set xs i w)
    each_set [] i w all p = tt
    each_set (x ∷ xs) zero w all p = (p, all.1)
    each_set (x ∷ xs) (suc i) w all p = (all.0, each_set xs i w all.1 p)

    pub each_append : (xs ys : List A) → AllByRecursion P xs → AllByRecursion P ys → AllByRecursion P (xs ++ ys)
    each_append [] ys a b = b
    each_append (x ∷ xs) ys a b = (a.0, each_append xs ys a.1 b)

    pub each_from : (Q : A → Type 0) → ((x : A) → Q x → P x) → (xs : List A) → AllByRecursion Q xs → AllByRecursion P xs
    each_from Q f [] all = tt
    each_from Q f (x ∷ xs) all = (f x all.0, each_from Q f xs all.1)

-- what holds of each number that stands in the list
pub each_stands : (P : ℕ → Type 0) (xs : List ℕ) → ((x : ℕ) → 0 < times x xs → P x) → AllByRecursion P xs
each_stands P [] h = tt
each_stands P (x ∷ xs) h = (h x here, each_stands P xs (λ y p. h y (omega (arith, p))))
  where
    here : 0 < (if x == x then 1 else 0) + times x xs
    here = let e : (x == x) ≡ true = eq-eqb x x refl in rw e (omega arith)

-- a number that is listed below n is below n, once
pub once_above : (x n : ℕ) → n ≤ x → once_below x n ≡ 0
once_above x zero le = refl
once_above x (suc n) le = let e : (n == x) ≡ false = ne_eqb n x (λ q. omega (arith, q, le)) in rw e (omega (arith, once_above x n (omega arith)))

pub once_inside : (x n : ℕ) → x < n → once_below x n ≡ 1
once_inside x zero lt = absurd (omega arith)
once_inside x (suc n) lt = dite (ℕ_discrete n x)
    (λ q. let e : (n == x) ≡ true = eq-eqb n x q in rw e (omega (arith, once_above x n (omega (arith, q)))))
    (λ q. let e : (n == x) ≡ false = ne_eqb n x q in rw e (omega (arith, once_inside x n (other q))))
  where
    other : (n ≡ x → ⊥) → x < n
    other q = dite (native.Mathlib.Decide.dec_lt x n) (λ l. l) (λ l. absurd (q (omega (arith, l, lt))))

-- a number above all others may follow an ascending list
pub increasing_more : (xs : List ℕ) (n : ℕ) → IsStrictlyIncreasing xs → AllByRecursion (λ x. x < n) xs → IsStrictlyIncreasing (xs ++ n ∷ [])
increasing_more [] n inc below k h = absurd (omega arith)
increasing_more (x ∷ []) n inc below zero h = below.0
increasing_more (x ∷ []) n inc below (suc k) h = absurd (omega arith)
increasing_more (x ∷ y ∷ xs) n inc below zero h = inc 0 (omega arith)
increasing_more (x ∷ y ∷ xs) n inc below (suc k) h = let f : suc k + 1 ≡ suc (k + 1) = omega arith in
    subst (λ i. slice_index (x ∷ y ∷ xs ++ n ∷ []) (suc k) < slice_index (x ∷ y ∷ xs ++ n ∷ []) i) (sym f) (increasing_more (y ∷ xs) n (λ j q. let e : suc j + 1 ≡ suc (j + 1) = omega arith in subst (λ i. slice_index (y ∷ xs) j < slice_index (x ∷ y ∷ xs) i) e (inc (suc j) (omega arith))) below.1 k (omega arith))

-- a list of one number
pub one_late : (P : ℕ → Type 0) (xs : List ℕ) → length xs ≡ 1 → AllByRecursion P xs → (x : ℕ) × P x × (xs ≡ x ∷ [])
one_late P [] one all = absurd (omega (arith, one))
one_late P (x ∷ []) one all = (x, all.0, refl)
one_late P (x ∷ y ∷ xs) one all = absurd (omega (arith, one))

pub none_late : (xs : List ℕ) → length xs ≡ 0 → xs ≡ []
none_late [] none = refl
none_late (x ∷ xs) none = absurd (omega (arith, none))
