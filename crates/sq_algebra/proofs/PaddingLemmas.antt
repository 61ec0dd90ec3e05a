-- Nested loops that give one row also where nothing matches, as a product and the padded rest.
use Rattle.std.proofs.Common.{◌≡◌, ℕ, zero, suc, ◌+◌, ◌*◌, List, [], ◌∷◌, ◌++◌, map, Bool, true, false, cond, not, ◌||◌, ◌==◌, ℤ, pos, ◌-ℤ◌, ◌*ℤ◌, filter, refl, sym, ap, ap₂, ◌∙◌, arith, zero-add, zero-mul, mul-zero, suc-mul, add_comm, Ordering, is_eq}
use Rattle.std.specs.List.{flat_map, list_any, count_by}
use Rattle.std.specs.Cmp.{IsTotalOrder}
use Rattle.std.specs.FinMap.{IsAntisymmetric}
use Rattle.std.proofs.lemmas.Bool.Decides.{nat_tests}
use Rattle.std.proofs.lemmas.List.Sums.{sum_by-cons}
use borrow.Author.Differences.{ints}
use Rattle.sq_algebra.specs.Listed.{or_one, count}
use Rattle.sq_algebra.specs.ZSet.{zero as no_keys, single, of_list, weight, plus as plus_keys, minus as minus_keys}
use Rattle.sq_algebra.specs.Groups.{IsAbelian, z_sets, sum_over}
use Rattle.sq_algebra.specs.Operators.{keep, distinct, image, product, meet}
use Rattle.sq_algebra.proofs.Tests.{equal}
use Rattle.sq_algebra.proofs.Lists.{count-cons, count-append}
use Rattle.sq_algebra.proofs.Weights.{weight-minus, weight-of_list, same_weights}
use Rattle.sq_algebra.proofs.GroupLemmas.{zero-times, times-unit, z_sets-IsAbelian, neutral_right, sum_over_agree, sum_over-plus, sum_over-filter}
use Rattle.sq_algebra.proofs.OperatorLemmas.{of_list-nil, of_list-one, of_list-flat_map, image-of_list, product-of_list, weight-keep, keep-of_list}
use Rattle.sq_algebra.proofs.ListLemmas.{sign_up, sign_up_count, weight-distinct}
use Rattle.sq_algebra.proofs.CompositionLemmas.{weight-meet}

-- whether some member passes, and how many do
any_counts : {X : Type 0} (p : X → Bool) (xs : List X) → list_any p xs ≡ not (count_by p xs == 0)
any_counts p [] = refl
any_counts p (x ∷ xs) = ap (λ b. p x || b) (any_counts p xs) ∙ step (p x) (count_by p xs) ∙ ap (λ (n : ℕ). not (n == 0)) (sym (sum_by-cons (λ x. cond (p x) 1 0) x xs))
  where
    step : (b : Bool) (n : ℕ) → (b || not (n == 0)) ≡ not (cond b 1 0 + n == 0)
    step true n = grind (arith, nat_tests)
    step false n = grind (arith, nat_tests)

module _ {J K L : Type 0} (matches : J → K → Bool) (joined : J → K → L) (padded : J → L) where
  -- the matching members, joined
  loop_is : (x : J) (ys : List K) → flat_map (λ y. cond (matches x y) (joined x y ∷ []) []) ys ≡ map (joined x) (filter (matches x) ys)
  loop_is x [] = refl
  loop_is x (y ∷ ys) = elim (matches x y) as (λ b. cond b (joined x y ∷ []) [] ++ flat_map (λ y. cond (matches x y) (joined x y ∷ []) []) ys ≡ map (joined x) (cond b (y ∷ filter (matches x) ys) (filter (matches x) ys))) [
    | true ↦ ap (λ zs. joined x y ∷ zs) (loop_is x ys)
    | false ↦ loop_is x ys
  ]

  module _ (U : L → L → Ordering) (u : IsTotalOrder U) (one : IsAntisymmetric U) where
    abbrev sums : IsAbelian (z_sets U)
    sums = z_sets-IsAbelian U u one

    -- a row for each match, and the padded row where there is none
    row_is : (x : J) (ys : List K) → of_list U (or_one (map (joined x) (filter (matches x) ys)) (padded x)) ≡ plus_keys (of_list U (map (joined x) (filter (matches x) ys))) (cond (list_any (matches x) ys) (no_keys U) (single U (padded x)))
    row_is x [] = of_list-one U (padded x) ∙ sym (ap (λ z. plus_keys z (single U (padded x))) (of_list-nil U u one) ∙ sums.neutral (single U (padded x)))
    row_is x (y ∷ ys) = elim (matches x y) as (λ b. of_list U (or_one (map (joined x) (cond b (y ∷ filter (matches x) ys) (filter (matches x) ys))) (padded x)) ≡ plus_keys (of_list U (map (joined x) (cond b (y ∷ filter (matches x) ys) (filter (matches x) ys)))) (cond (b || list_any (matches x) ys) (no_keys U) (single U (padded x)))) [
      | true ↦ sym (neutral_right (z_sets U) sums (of_list U (joined x y ∷ map (joined x) (filter (matches x) ys))))
      | false ↦ row_is x ys
    ]

    module _ (Q : J → J → Ordering) (q : IsTotalOrder Q) (alike : IsAntisymmetric Q) (R : K → K → Ordering) (o : IsTotalOrder R) (identical : IsAntisymmetric R) where
      rest_is : (xs : List J) (ys : List K) → sum_over (z_sets U) (λ x. cond (list_any (matches x) ys) (no_keys U) (single U (padded x))) xs ≡ image U (λ x. padded x ∷ []) (keep (λ x. not (list_any (matches x) ys)) (of_list Q xs))
      rest_is xs ys =
          sum_over_agree (z_sets U) (λ x. cond (list_any (matches x) ys) (no_keys U) (single U (padded x))) (λ x. cond (not (list_any (matches x) ys)) (of_list U (padded x ∷ [])) (no_keys U)) step xs
          ∙ sym (sum_over-filter (z_sets U) sums (λ x. of_list U (padded x ∷ [])) (λ x. not (list_any (matches x) ys)) xs)
          ∙ sym (of_list-flat_map U u one (λ x. padded x ∷ []) (filter (λ x. not (list_any (matches x) ys)) xs))
          ∙ sym (ap (image U (λ x. padded x ∷ [])) (keep-of_list Q q alike (λ x. not (list_any (matches x) ys)) xs) ∙ image-of_list U u one Q q alike (λ x. padded x ∷ []) (filter (λ x. not (list_any (matches x) ys)) xs))
        where
          step : (x : J) → cond (list_any (matches x) ys) (no_keys U) (single U (padded x)) ≡ cond (not (list_any (matches x) ys)) (of_list U (padded x ∷ [])) (no_keys U)
          step x = elim (list_any (matches x) ys) as (λ b. cond b (no_keys U) (single U (padded x)) ≡ cond (not b) (of_list U (padded x ∷ [])) (no_keys U)) [ true ↦ refl | false ↦ sym (of_list-one U (padded x)) ]

      -- nested loops with a padded row for each left member without a match
      pub of_list-padded : (xs : List J) (ys : List K) →
          of_list U (flat_map (λ x. or_one (map (joined x) (filter (matches x) ys)) (padded x)) xs)
          ≡ plus_keys (product U (λ x y. cond (matches x y) (joined x y ∷ []) []) (of_list Q xs) (of_list R ys)) (image U (λ x. padded x ∷ []) (keep (λ x. not (list_any (matches x) ys)) (of_list Q xs)))
      of_list-padded xs ys =
          of_list-flat_map U u one (λ x. or_one (map (joined x) (filter (matches x) ys)) (padded x)) xs
          ∙ sum_over_agree (z_sets U) (λ x. of_list U (or_one (map (joined x) (filter (matches x) ys)) (padded x))) (λ x. plus_keys (of_list U (map (joined x) (filter (matches x) ys))) (cond (list_any (matches x) ys) (no_keys U) (single U (padded x)))) (λ x. row_is x ys) xs
          ∙ sum_over-plus (z_sets U) sums (λ x. of_list U (map (joined x) (filter (matches x) ys))) (λ x. cond (list_any (matches x) ys) (no_keys U) (single U (padded x))) xs
          ∙ ap₂ plus_keys
          (sum_over_agree (z_sets U) (λ x. of_list U (map (joined x) (filter (matches x) ys))) (λ x. of_list U (flat_map (λ y. cond (matches x y) (joined x y ∷ []) []) ys)) (λ x. ap (of_list U) (sym (loop_is x ys))) xs
          ∙ sym (of_list-flat_map U u one (λ x. flat_map (λ y. cond (matches x y) (joined x y ∷ []) []) ys) xs)
          ∙ sym (product-of_list U u one Q q alike R o identical (λ x y. cond (matches x y) (joined x y ∷ []) []) xs ys))
          (rest_is xs ys)

-- ---- the left members without a match, by the product with the right ones
is_positive : (m a n : ℕ) → m ≡ a + suc n → sign_up (pos m) ≡ pos 1
is_positive m a n e = sign_up_count m ∙ ap pos (some m a n e)
  where
    some : (m a n : ℕ) → m ≡ a + suc n → ◌≡◌ {A = ℕ} (cond (m == 0) 0 1) 1
    some m a n e = grind (arith, nat_tests)

unmatched_step : (c n : ℕ) → cond (not (not (n == 0))) (pos c) (pos 0) ≡ pos c -ℤ (pos c *ℤ sign_up (pos c *ℤ pos n))
unmatched_step zero n =
    elim (n == 0) as (λ b. ◌≡◌ {A = ℤ} (cond (not (not b)) (pos 0) (pos 0)) (pos 0)) [ true ↦ refl | false ↦ refl ]
    ∙ ap (λ m. pos 0 -ℤ m) (sym (zero-times (sign_up (pos 0 *ℤ pos n))))
unmatched_step (suc c) zero = sym (ap (λ m. pos (suc c) -ℤ (pos (suc c) *ℤ sign_up (pos m))) (mul-zero (suc c)) ∙ ap (λ m. pos (suc c) -ℤ pos m) (mul-zero (suc c)) ∙ zero_off (pos (suc c)))
  where
    zero_off : (n : ℤ) → n -ℤ pos 0 ≡ n
    zero_off n = omega (arith, ints)
unmatched_step (suc c) (suc n) =
    ap (λ b. cond (not (not b)) (pos (suc c)) (pos 0)) (apart n)
    ∙ sym (ap (λ m. pos (suc c) -ℤ (pos (suc c) *ℤ m)) (is_positive (suc c * suc n) (c * suc n) n (suc-mul c (suc n))) ∙ ap (λ m. pos (suc c) -ℤ m) (times-unit (pos (suc c))) ∙ itself_off (pos (suc c)))
  where
    apart : (n : ℕ) → (suc n == 0) ≡ false
    apart n = grind (arith, nat_tests)

    itself_off : (n : ℤ) → n -ℤ n ≡ pos 0
    itself_off n = omega (arith, ints)

one_more : (t : Bool) (n m : ℕ) → m ≡ cond t n 0 → cond t 1 0 + m ≡ cond t (1 + n) 0
one_more true n m e = ap (λ (k : ℕ). 1 + k) e
one_more false n m e = zero-add m ∙ e

first_times : (t : Bool) (a n c : ℕ) → (t ≡ true → a ≡ n) → cond t a 0 + c * n ≡ (cond t 1 0 + c) * n
first_times true a n c same = ap (λ (k : ℕ). k + c * n) (same refl) ∙ add_comm n (c * n) ∙ sym (suc-mul c n) ∙ ap (λ (k : ℕ). k * n) (suc_is c)
  where
    suc_is : (c : ℕ) → suc c ≡ 1 + c
    suc_is c = omega arith
first_times false a n c same = zero-add (c * n) ∙ ap (λ (k : ℕ). k * n) (sym (zero-add c))

module _ {J K : Type 0} (matches : J → K → Bool) (Q : J → J → Ordering) (q : IsTotalOrder Q) (alike : IsAntisymmetric Q) (R : K → K → Ordering) (o : IsTotalOrder R) (identical : IsAntisymmetric R) where
  abbrev lefts : IsAbelian (z_sets Q)
  lefts = z_sets-IsAbelian Q q alike

  -- the left member once for each of its matches
  abbrev fronts_of : J → List K → List J
  fronts_of x ys = flat_map (λ y. cond (matches x y) (x ∷ []) []) ys

  count-fronts_of : (k x : J) (ys : List K) → count Q k (fronts_of x ys) ≡ cond (is_eq (Q k x)) (count_by (matches x) ys) 0
  count-fronts_of k x [] = elim (is_eq (Q k x)) as (λ b. ◌≡◌ {A = ℕ} 0 (cond b 0 0)) [ true ↦ refl | false ↦ refl ]
  count-fronts_of k x (y ∷ ys) =
      elim (matches x y) as (λ b. count Q k (cond b (x ∷ []) [] ++ fronts_of x ys) ≡ cond (is_eq (Q k x)) (cond b 1 0 + count_by (matches x) ys) 0) [
        | true ↦ count-cons Q k x (fronts_of x ys) ∙ one_more (is_eq (Q k x)) (count_by (matches x) ys) (count Q k (fronts_of x ys)) (count-fronts_of k x ys)
        | false ↦ count-fronts_of k x ys ∙ ap (λ n. cond (is_eq (Q k x)) n 0) (sym (zero-add (count_by (matches x) ys)))
      ]
      ∙ ap (λ n. cond (is_eq (Q k x)) n 0) (sym (sum_by-cons (λ y. cond (matches x y) 1 0) y ys))

  count-fronts : (k : J) (xs : List J) (ys : List K) → count Q k (flat_map (λ x. fronts_of x ys) xs) ≡ count Q k xs * count_by (matches k) ys
  count-fronts k [] ys = sym (zero-mul (count_by (matches k) ys))
  count-fronts k (x ∷ xs) ys =
      count-append Q k (fronts_of x ys) (flat_map (λ x. fronts_of x ys) xs)
      ∙ ap₂ ◌+◌ (count-fronts_of k x ys) (count-fronts k xs ys)
      ∙ first_times (is_eq (Q k x)) (count_by (matches x) ys) (count_by (matches k) ys) (count Q k xs) (λ t. ap (λ j. count_by (matches j) ys) (sym (alike k x (equal (Q k x) t))))
      ∙ ap (λ n. n * count_by (matches k) ys) (sym (count-cons Q k x xs))

  -- so it stands among the left members of the pairs as often as it has pairs
  weight-fronts : (k : J) (xs : List J) (ys : List K) → weight k (product Q (λ x y. cond (matches x y) (x ∷ []) []) (of_list Q xs) (of_list R ys)) ≡ pos (count Q k xs) *ℤ pos (count_by (matches k) ys)
  weight-fronts k xs ys =
      ap (weight k) (product-of_list Q q alike Q q alike R o identical (λ x y. cond (matches x y) (x ∷ []) []) xs ys)
      ∙ weight-of_list Q q k (flat_map (λ x. fronts_of x ys) xs)
      ∙ ap pos (count-fronts k xs ys)

  pub unmatched_is : (xs : List J) (ys : List K) → keep (λ x. not (list_any (matches x) ys)) (of_list Q xs) ≡ minus_keys (of_list Q xs) (meet (of_list Q xs) (distinct (product Q (λ x y. cond (matches x y) (x ∷ []) []) (of_list Q xs) (of_list R ys))))
  unmatched_is xs ys = same_weights Q q alike (keep (λ x. not (list_any (matches x) ys)) (of_list Q xs)) (minus_keys (of_list Q xs) (meet (of_list Q xs) (distinct (product Q (λ x y. cond (matches x y) (x ∷ []) []) (of_list Q xs) (of_list R ys))))) (λ k.
      weight-keep Q q alike (λ x. not (list_any (matches x) ys)) k (of_list Q xs)
      ∙ (λ i. cond (not (any_counts (matches k) ys i)) (weight-of_list Q q k xs i) (pos 0))
      ∙ unmatched_step (count Q k xs) (count_by (matches k) ys)
      ∙ sym (weight-minus Q q k (of_list Q xs) (meet (of_list Q xs) (distinct (product Q (λ x y. cond (matches x y) (x ∷ []) []) (of_list Q xs) (of_list R ys))))
      ∙ ap₂ ◌-ℤ◌ (weight-of_list Q q k xs)
      (weight-meet Q q alike k (of_list Q xs) (distinct (product Q (λ x y. cond (matches x y) (x ∷ []) []) (of_list Q xs) (of_list R ys)))
      ∙ ap₂ ◌*ℤ◌ (weight-of_list Q q k xs) (weight-distinct Q q k (product Q (λ x y. cond (matches x y) (x ∷ []) []) (of_list Q xs) (of_list R ys)) ∙ ap sign_up (weight-fronts k xs ys)))))
