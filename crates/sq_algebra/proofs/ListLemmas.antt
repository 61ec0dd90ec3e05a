-- Lists by first appearance and by membership, and the Z-sets of lists.
use Rattle.std.proofs.Common.{◌≡◌, ℕ, ◌++◌, ◌+◌, List, [], ◌∷◌, map, Bool, true, false, cond, not, ◌==◌, T, ℤ, pos, ◌+ℤ◌, ◌-ℤ◌, filter, refl, sym, ap, ap₂, subst, ◌∙◌, arith, zero-add, Ordering, Less, Equal, Greater, is_eq}
use Rattle.std.specs.Prelude.{int_lt}
use Rattle.std.specs.Ordering.{ordering_reverse}
use Rattle.std.specs.Cmp.{IsTotalOrder}
use Rattle.std.specs.FinMap.{IsAntisymmetric}
use Rattle.std.proofs.lemmas.Cmp.{alike_right}
use Rattle.std.proofs.lemmas.Bool.Decides.{nat_tests}
use mathlib.Core.Logic.{◌⊎◌, inl, inr}
use borrow.Author.Differences.{ints}
use Rattle.sq_algebra.specs.Listed.{count, is_below_all, is_ascending, first_of_each, among, without}
use Rattle.sq_algebra.specs.ZSet.{keys, weight_in, ZSet, entries, entries_canonical, zero as no_keys, of_list, from_pairs, weight, plus as plus_keys, minus as minus_keys}
use Rattle.sq_algebra.specs.Operators.{keep, distinct}
use Rattle.sq_algebra.proofs.Tests.{first, second}
use Rattle.sq_algebra.proofs.Lists.{below_tied, count-cons, count-append, count-filter, count_tied}
use Rattle.sq_algebra.proofs.Weights.{ascending_from, weight_in_none, weight-zero, weight-plus, weight-minus, weight-entries, weight-of_list, weight-from_pairs, same_weights}
use Rattle.sq_algebra.proofs.OperatorLemmas.{weight-keep}

-- ---- counts
first_step : (t u : Bool) (n m : ℕ) → t ≡ u → m ≡ cond (n == 0) 0 1 → cond t 1 0 + cond (not u) m 0 ≡ cond (cond t 1 0 + n == 0) 0 1
first_step true true n m e c = grind (arith, nat_tests)
first_step false false n m e c = zero-add m ∙ c ∙ ap (λ (k : ℕ). cond (k == 0) 0 1) (sym (zero-add n))
first_step true false n m e c = cc
first_step false true n m e c = cc

module _ {K : Type 0} (R : K → K → Ordering) (o : IsTotalOrder R) where
  -- the order tells in both directions whether two keys tie
  pub tie_back : (j k : K) → is_eq (R j k) ≡ is_eq (R k j)
  tie_back j k = elim (R k j) as (λ r. R j k ≡ ordering_reverse r → is_eq (R j k) ≡ is_eq r) [
    | Less ↦ λ e. ap is_eq e
    | Equal ↦ λ e. ap is_eq e
    | Greater ↦ λ e. ap is_eq e
  ] (o.antisymm j k)

  -- each key of a list stands once in the list of its first appearances, and no other key does
  pub count-first_of_each : (k : K) (xs : List K) → count R k (first_of_each R xs) ≡ cond (count R k xs == 0) 0 1
  count-first_of_each k [] = refl
  count-first_of_each k (x ∷ xs) =
      count-cons R k x (filter (λ y. not (is_eq (R x y))) (first_of_each R xs))
      ∙ ap (λ n. cond (is_eq (R k x)) 1 0 + n) (count-filter R (λ y. not (is_eq (R x y))) k (λ y e. ap (λ r. not (is_eq r)) (sym (alike_right o k y x e))) (first_of_each R xs))
      ∙ first_step (is_eq (R k x)) (is_eq (R x k)) (count R k xs) (count R k (first_of_each R xs)) (tie_back k x) (count-first_of_each k xs)
      ∙ ap (λ (n : ℕ). cond (n == 0) 0 1) (sym (count-cons R k x xs))

  -- a key stands among the members that another list has too as often as before, or not at all, and so without them
  pub count-among : (k : K) (xs ys : List K) → count R k (among R xs ys) ≡ cond (count R k ys == 0) 0 (count R k xs)
  count-among k xs ys =
      count-filter R (λ x. not (count R x ys == 0)) k (λ x e. ap (λ n. not (n == 0)) (sym (count_tied R o k x ys e))) xs
      ∙ elim (count R k ys == 0) as (λ b. cond (not b) (count R k xs) 0 ≡ cond b 0 (count R k xs)) [ true ↦ refl | false ↦ refl ]

  pub count-without : (k : K) (xs ys : List K) → count R k (without R xs ys) ≡ cond (count R k ys == 0) (count R k xs) 0
  count-without k xs ys = count-filter R (λ x. count R x ys == 0) k (λ x e. ap (λ n. n == 0) (sym (count_tied R o k x ys e))) xs

  -- how often a key stands in a union, an intersection and a difference without repeats
  pub count-union : (k : K) (xs ys : List K) → count R k (first_of_each R (xs ++ ys)) ≡ cond (count R k xs + count R k ys == 0) 0 1
  count-union k xs ys = count-first_of_each k (xs ++ ys) ∙ ap (λ (n : ℕ). cond (n == 0) 0 1) (count-append R k xs ys)

  pub count-intersection : (k : K) (xs ys : List K) → count R k (among R (first_of_each R xs) ys) ≡ cond (count R k ys == 0) 0 (cond (count R k xs == 0) 0 1)
  count-intersection k xs ys = count-among k (first_of_each R xs) ys ∙ ap (λ (n : ℕ). cond (count R k ys == 0) 0 n) (count-first_of_each k xs)

  pub count-difference : (k : K) (xs ys : List K) → count R k (without R (first_of_each R xs) ys) ≡ cond (count R k ys == 0) (cond (count R k xs == 0) 0 1) 0
  count-difference k xs ys = count-without k (first_of_each R xs) ys ∙ ap (λ (n : ℕ). cond (count R k ys == 0) n 0) (count-first_of_each k xs)

zero_left : (n : ℤ) → pos 0 +ℤ n ≡ n
zero_left n = omega (arith, ints)

less_itself : (n : ℤ) → n -ℤ n ≡ pos 0
less_itself n = omega (arith, ints)

zero_right : (n : ℤ) → n +ℤ pos 0 ≡ n
zero_right n = omega (arith, ints)

-- ---- the weight 1 where the weight is above 0
abbrev pub sign_up : ℤ → ℤ
sign_up n = cond (int_lt (pos 0) n) (pos 1) (pos 0)

pub sign_up_count : (n : ℕ) → sign_up (pos n) ≡ pos (cond (n == 0) 0 1)
sign_up_count n = grind (arith, nat_tests)

module _ {K : Type 0} (R : K → K → Ordering) (o : IsTotalOrder R) where
  -- a function of key and weight, which keeps 0, gives each key what it gives for its weight
  reweighed : (g : K → ℤ → ℤ) → ((k : K) → g k (pos 0) ≡ pos 0) → ((j k : K) (n : ℤ) → R j k ≡ Equal → g k n ≡ g j n) → (k : K) (ps : List (K × ℤ)) → T (is_ascending R (keys ps)) → weight_in R k (map (λ e. (e.0, g e.0 e.1)) ps) ≡ g k (weight_in R k ps)
  reweighed g none tied k [] h = sym (none k)
  reweighed g none tied k (p ∷ ps) h =
      let rest : weight_in R k (map (λ e. (e.0, g e.0 e.1)) ps) ≡ g k (weight_in R k ps) = reweighed g none tied k ps (second (is_below_all R p.0 (keys ps)) (is_ascending R (keys ps)) h) in
      elim (R k p.0) as (λ r. R k p.0 ≡ r → cond (is_eq r) (g p.0 p.1) (pos 0) +ℤ weight_in R k (map (λ e. (e.0, g e.0 e.1)) ps) ≡ g k (cond (is_eq r) p.1 (pos 0) +ℤ weight_in R k ps)) [
        | Less ↦ λ e. zero_left (weight_in R k (map (λ e. (e.0, g e.0 e.1)) ps)) ∙ rest ∙ ap (g k) (sym (zero_left (weight_in R k ps)))
        | Equal ↦ λ e.
            let below : weight_in R k ps ≡ pos 0 = weight_in_none R o k ps (below_tied R o k p.0 (keys ps) e (first (is_below_all R p.0 (keys ps)) (is_ascending R (keys ps)) h)) in
            ap (λ n. g p.0 p.1 +ℤ n) (rest ∙ ap (g k) below ∙ none k) ∙ zero_right (g p.0 p.1) ∙ tied k p.0 p.1 e ∙ ap (g k) (sym (ap (λ n. p.1 +ℤ n) below ∙ zero_right p.1))
        | Greater ↦ λ e. zero_left (weight_in R k (map (λ e. (e.0, g e.0 e.1)) ps)) ∙ rest ∙ ap (g k) (sym (zero_left (weight_in R k ps)))
      ] refl

  pub weight_in-signs : (k : K) (z : ZSet K R) → weight_in R k (map (λ e. (e.0, sign_up e.1)) (entries z)) ≡ sign_up (weight k z)
  unfolding weight
  weight_in-signs k z = reweighed (λ _. sign_up) (λ _. refl) (λ _ _ _ _. refl) k (entries z) (ascending_from R (entries z) (entries_canonical z))

  pub weight-distinct : (k : K) (z : ZSet K R) → weight k (distinct z) ≡ sign_up (weight k z)
  unfolding distinct
  weight-distinct k z = weight-from_pairs R o k (map (λ e. (e.0, sign_up e.1)) (entries z)) ∙ weight_in-signs k z

  module _ (identical : IsAntisymmetric R) where
    pub distinct-zero : distinct (no_keys R) ≡ no_keys R
    distinct-zero = same_weights R o identical (distinct (no_keys R)) (no_keys R) (λ k. weight-distinct k (no_keys R) ∙ ap sign_up (weight-zero R k) ∙ sym (weight-zero R k))

    -- where each weight is 0 or 1, nothing changes
    pub distinct_same : (z : ZSet K R) → ((k : K) → (weight k z ≡ pos 0) ⊎ (weight k z ≡ pos 1)) → distinct z ≡ z
    distinct_same z each = same_weights R o identical (distinct z) z (λ k. weight-distinct k z ∙ step (weight k z) (each k))
      where
        step : (n : ℤ) → (n ≡ pos 0) ⊎ (n ≡ pos 1) → sign_up n ≡ n
        step n (inl e) = ap sign_up e ∙ sym e
        step n (inr e) = ap sign_up e ∙ sym e

    sign_up_is : (n : ℤ) → (sign_up n ≡ pos 0) ⊎ (sign_up n ≡ pos 1)
    sign_up_is n = elim (int_lt (pos 0) n) as (λ b. (cond b (pos 1) (pos 0) ≡ pos 0) ⊎ (cond b (pos 1) (pos 0) ≡ pos 1)) [ true ↦ inr refl | false ↦ inl refl ]

    pub distinct-distinct : (z : ZSet K R) → distinct (distinct z) ≡ distinct z
    distinct-distinct z = distinct_same (distinct z) (λ k. subst (λ n. (n ≡ pos 0) ⊎ (n ≡ pos 1)) (sym (weight-distinct k z)) (sign_up_is (weight k z)))

    pub distinct-keep : (p : K → Bool) (z : ZSet K R) → distinct (keep p z) ≡ keep p (distinct z)
    distinct-keep p z = same_weights R o identical (distinct (keep p z)) (keep p (distinct z)) (λ k.
        weight-distinct k (keep p z)
        ∙ ap sign_up (weight-keep R o identical p k z)
        ∙ elim (p k) as (λ b. sign_up (cond b (weight k z) (pos 0)) ≡ cond b (sign_up (weight k z)) (pos 0)) [ true ↦ refl | false ↦ refl ]
        ∙ sym (weight-keep R o identical p k (distinct z) ∙ ap (λ n. cond (p k) n (pos 0)) (weight-distinct k z)))

    -- a list without repeats is the distinct Z-set of the list
    pub distinct-of_list : (xs : List K) → distinct (of_list R xs) ≡ of_list R (first_of_each R xs)
    distinct-of_list xs = same_weights R o identical (distinct (of_list R xs)) (of_list R (first_of_each R xs)) (λ k.
        weight-distinct k (of_list R xs)
        ∙ ap sign_up (weight-of_list R o k xs)
        ∙ sign_up_count (count R k xs)
        ∙ sym (weight-of_list R o k (first_of_each R xs) ∙ ap pos (count-first_of_each R o k xs)))

    -- the change of the distinct Z-set, key by key of a change
    pub distinct-change : (z d : ZSet K R) → minus_keys (distinct (plus_keys z d)) (distinct z) ≡ from_pairs R (map (λ e. (e.0, sign_up (weight e.0 z +ℤ e.1) -ℤ sign_up (weight e.0 z))) (entries d))
    distinct-change z d = same_weights R o identical (minus_keys (distinct (plus_keys z d)) (distinct z)) (from_pairs R (map (λ e. (e.0, rise e.0 e.1)) (entries d))) (λ k.
        weight-minus R o k (distinct (plus_keys z d)) (distinct z)
        ∙ ap₂ ◌-ℤ◌ (weight-distinct k (plus_keys z d) ∙ ap sign_up (weight-plus R o k z d)) (weight-distinct k z)
        ∙ sym (weight-from_pairs R o k (map (λ e. (e.0, rise e.0 e.1)) (entries d))
        ∙ reweighed rise still tied k (entries d) (ascending_from R (entries d) (entries_canonical d))
        ∙ ap (rise k) (sym (weight-entries R k d))))
      where
        rise : K → ℤ → ℤ
        rise k n = sign_up (weight k z +ℤ n) -ℤ sign_up (weight k z)

        still : (k : K) → rise k (pos 0) ≡ pos 0
        still k = ap (λ n. sign_up n -ℤ sign_up (weight k z)) (zero_right (weight k z)) ∙ less_itself (sign_up (weight k z))

        tied : (j k : K) (n : ℤ) → R j k ≡ Equal → rise k n ≡ rise j n
        tied j k n e = ap (λ i. rise i n) (sym (identical j k e))
