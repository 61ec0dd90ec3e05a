-- What the rows of a group count for, row after row.
use Rattle.std.proofs.Common.{◌≡◌, ℕ, zero, suc, ◌+◌, ◌*◌, ◌^◌, ◌≤◌, List, [], ◌∷◌, ◌++◌, true, false, cond, take, length, ℤ, pos, negsuc, ◌+ℤ◌, ◌*ℤ◌, ◌≤ℤ◌, unsigned_abs, Some, refl, sym, ap, ap₂, subst, ◌∙◌, mul-add, take_all, get_or, lit≤, to_z, of_z, to_z-of_z, arith}
use Rattle.std.specs.Prelude.{slice_get, FitsSigned}
use Rattle.std.specs.Int.{w64, w128}
use Rattle.std.specs.List.{AllByRecursion}
use Rattle.std.proofs.lemmas.Int.{fits_signed_from_abs, unsigned_abs-mul}
use Rattle.sq_expr.proofs.Lists.{take_more}
use Rattle.sq_zset.proofs.Entries.{kept_128}
use Rattle.std.proofs.lemmas.List.Elements.{recursion_from_All}
use Rattle.std.proofs.lemmas.List.Sums.{sum_by-cons}
use Rattle.std.proofs.lemmas.Nat.{mul-le}
use Rattle.std.proofs.Math.Nat.{mul_comm}
use borrow.Author.Differences.{ints}
use Rattle.sq_value.specs.declared.value.Value.{Value}
use Rattle.sq_value.specs.Order.{row_cmp}
use Rattle.sq_value.specs.OrderLaws.{row_cmp-total, row_cmp-antisymmetric}
use Rattle.sq_algebra.specs.Groups.{integers, sum_over, times}
use Rattle.sq_algebra.specs.Operators.{IsNonNegative, lin}
use Rattle.sq_algebra.specs.ZSet.{ZSet, entries, int_sum_by, total}
use Rattle.sq_algebra.proofs.LinearLemmas.{entry_weight, lin-entries, lin-from_pairs, times_whole}
use Rattle.sq_algebra.proofs.Weights.{total-from_pairs}
use Rattle.sq_zset.specs.Collecting.{mass_of}
use Rattle.sq_zset.proofs.RowOperators.{total-keep}
use Rattle.sq_zset.specs.GroupLaws.{integers_are_abelian}
use Rattle.sq_ops.specs.declared.measure.Measure.{Measure}
use Rattle.sq_ops.specs.declared.measure.Measure.TheVariants.{Values, Numbers}
use Rattle.sq_ops.specs.Aggregates.{count_in, has_value, number_at, sum_in}
use Rattle.sq_ops.specs.Measures.{HasBigints, IsMeasurable, factor_of, weighted}

module _ (h : List Value → ℤ) where
  abbrev pub measure : List (List Value × ℤ) → ℤ
  measure es = int_sum_by (λ e. e.1 *ℤ h e.0) es

  -- it is the linear extension
  pub measure_is : (es : List (List Value × ℤ)) → measure es ≡ sum_over integers (λ e. times integers e.1 (h e.0)) es
  measure_is [] = refl
  measure_is (e ∷ es) = ap₂ (λ m n. m +ℤ n) (sym (times_whole e.1 (h e.0))) (measure_is es)

  pub measure-lin : (z : ZSet (List Value) row_cmp) → measure (entries z) ≡ lin integers h z
  measure-lin z = measure_is (entries z) ∙ sym (lin-entries integers h z)

  measure-append : (xs ys : List (List Value × ℤ)) → measure (xs ++ ys) ≡ measure xs +ℤ measure ys
  measure-append [] ys = omega (arith, ints)
  measure-append (x ∷ xs) ys = let rest = measure-append xs ys in omega (arith, ints)

  pub measure_more : (es : List (List Value × ℤ)) (i : ℕ) (row : List Value) (n : ℤ) → slice_get es i ≡ Some (row, n) → measure (take (i + 1) es) ≡ measure (take i es) +ℤ n *ℤ h row
  measure_more es i row n found =
      let whole = ap measure (take_more es i (row, n) found) ∙ measure-append (take i es) ((row, n) ∷ []) in
      omega (arith, ints)

  -- no front counts for more than what bounds one row, for each of them
  pub measure_bound : (b : ℕ) (es : List (List Value × ℤ)) → AllByRecursion (λ e. unsigned_abs (h e.0) ≤ b) es → (k : ℕ) → unsigned_abs (measure (take k es)) ≤ b * mass_of es
  measure_bound b [] all zero = omega arith
  measure_bound b [] all (suc k) = omega arith
  measure_bound b (e ∷ es) all zero = omega arith
  measure_bound b (e ∷ es) all (suc k) =
      let rest = measure_bound b es all.1 k in
      let product = unsigned_abs-mul e.1 (h e.0) in
      let first : unsigned_abs e.1 * unsigned_abs (h e.0) ≤ unsigned_abs e.1 * b = mul-le (unsigned_abs e.1) (unsigned_abs (h e.0)) (unsigned_abs e.1) b (omega arith) all.0 in
      let turned = mul_comm (unsigned_abs e.1) b in
      let whole = ap (λ n. b * n) (sum_by-cons (λ (d : List Value × ℤ). unsigned_abs d.1) e es) in
      let spread = mul-add b (unsigned_abs e.1) (mass_of es) in
      omega (arith, ints)

-- ---- the rows of a group
masses : (es : List (List Value × ℤ)) → AllByRecursion (λ e. pos 0 ≤ℤ e.1) es → pos (mass_of es) ≡ int_sum_by (λ e. e.1) es
masses [] all = refl
masses (e ∷ es) all = let rest = masses es all.1 in let whole = sum_by-cons (λ (d : List Value × ℤ). unsigned_abs d.1) e es in let first = weighs e.1 all.0 in omega (arith, ints)
  where
    weighs : (n : ℤ) → pos 0 ≤ℤ n → pos (unsigned_abs n) ≡ n
    weighs (pos n) h = refl
    weighs (negsuc n) h = absurd (omega (arith, ints))

total-entries : (z : ZSet (List Value) row_cmp) → total z ≡ int_sum_by (λ e. e.1) (entries z)
unfolding total
total-entries z = refl

-- the rows of a group without negative weights weigh as much as their total
pub small_mass : (z : ZSet (List Value) row_cmp) → IsNonNegative z → total z ≤ℤ pos (2 ^ 61) → mass_of (entries z) ≤ 2 ^ 61
small_mass z proper most =
    let each : AllByRecursion (λ (e : List Value × ℤ). pos 0 ≤ℤ e.1) (entries z) =
    recursion_from_All (λ (e : List Value × ℤ). pos 0 ≤ℤ e.1) (entries z) (λ i d low. subst (λ n. pos 0 ≤ℤ n) (entry_weight row_cmp row_cmp-total z i d low) (proper (get_or (entries z) i d).0)) in
    let whole = masses (entries z) each ∙ sym (total-entries z) in
    omega (arith, ints)

abs_of_sum : (es : List (List Value × ℤ)) → unsigned_abs (int_sum_by (λ e. e.1) es) ≤ mass_of es
abs_of_sum [] = omega arith
abs_of_sum (e ∷ es) = let rest = abs_of_sum es in let whole = sum_by-cons (λ (d : List Value × ℤ). unsigned_abs d.1) e es in omega (arith, ints)

-- the count is what the rows count for by their values
pub count_is : (column : ℕ) (z : ZSet (List Value) row_cmp) → lin integers (factor_of Values column) z ≡ count_in column z
count_is column z = sym (total-keep (has_value column) z)

-- ---- one row
pub measure_of_row : (h : List Value → ℤ) (row : List Value) (n : ℤ) → lin integers h (weighted row n) ≡ n *ℤ h row
measure_of_row h row n = lin-from_pairs row_cmp row_cmp-total row_cmp-antisymmetric integers integers_are_abelian h ((row, n) ∷ []) ∙ sym (measure_is h ((row, n) ∷ [])) ∙ omega (arith, ints)

pub total_of_row : (row : List Value) (n : ℤ) → total (weighted row n) ≡ n
total_of_row row n = total-from_pairs row_cmp row_cmp-total ((row, n) ∷ []) ∙ omega (arith, ints)

pub count_of_one : (column : ℕ) (row : List Value) (n : ℤ) → count_in column (weighted row n) ≡ cond (has_value column row) n (pos 0)
count_of_one column row n = sym (count_is column (weighted row n)) ∙ measure_of_row (factor_of Values column) row n ∙ elim (has_value column row) as (λ b. n *ℤ cond b (pos 1) (pos 0) ≡ cond b n (pos 0)) [ true ↦ omega (arith, ints) | false ↦ omega (arith, ints) ]

module _ (z : ZSet (List Value) row_cmp) (measurable : IsMeasurable z) where
  factor_bound : (m : Measure) (column : ℕ) (row : List Value) → HasBigints row → unsigned_abs (factor_of m column row) ≤ 2 ^ 63
  factor_bound Values column row h = elim (has_value column row) as (λ b. unsigned_abs (cond b (pos 1) (pos 0)) ≤ 2 ^ 63) [ true ↦ lit≤ tt | false ↦ lit≤ tt ]
  factor_bound Numbers column row h = h column

  module _ (m : Measure) (column : ℕ) where
    factors : AllByRecursion (λ e. unsigned_abs (factor_of m column e.0) ≤ 2 ^ 63) (entries z)
    factors = recursion_from_All (λ (e : List Value × ℤ). unsigned_abs (factor_of m column e.0) ≤ 2 ^ 63) (entries z) (λ i d low. factor_bound m column (get_or (entries z) i d).0 (measurable.has_bigints i d low))

    pub front_bound : (k : ℕ) → unsigned_abs (measure (factor_of m column) (take k (entries z))) ≤ 2 ^ 125
    front_bound k = let front = measure_bound (factor_of m column) (2 ^ 63) (entries z) factors k in let small = measurable.few in omega arith

    module _ (i : ℕ) (row : List Value) (n s x : ℤ) (found : slice_get (entries z) i ≡ Some (row, n)) (so_far : s ≡ measure (factor_of m column) (take i (entries z))) (more : x ≡ n *ℤ factor_of m column row) where
      pub one_measured : s +ℤ x ≡ measure (factor_of m column) (take (i + 1) (entries z))
      one_measured = ap₂ (λ a b. a +ℤ b) so_far more ∙ sym (measure_more (factor_of m column) (entries z) i row n found)

      pub sum_bound : unsigned_abs (s +ℤ x) ≤ 2 ^ 126
      sum_bound = let front = subst (λ a. unsigned_abs a ≤ 2 ^ 125) (sym one_measured) (front_bound (i + 1)) in omega arith

  -- the whole is the last front
  whole_bound : (b : ℕ) (h : List Value → ℤ) → AllByRecursion (λ e. unsigned_abs (h e.0) ≤ b) (entries z) → unsigned_abs (lin integers h z) ≤ b * mass_of (entries z)
  whole_bound b h all =
      subst (λ n. unsigned_abs n ≤ b * mass_of (entries z)) (ap (measure h) (take_all (length (entries z)) (entries z) (omega arith)) ∙ measure-lin h z) (measure_bound h b (entries z) all (length (entries z)))

  pub total_bound : unsigned_abs (total z) ≤ 2 ^ 62
  total_bound = let all = subst (λ n. unsigned_abs n ≤ mass_of (entries z)) (sym (total-entries z)) (abs_of_sum (entries z)) in let small = measurable.few in omega arith

  pub count_bound : (column : ℕ) → unsigned_abs (count_in column z) ≤ 2 ^ 62
  count_bound column =
      let all = subst (λ n. unsigned_abs n ≤ 1 * mass_of (entries z)) (count_is column z) (whole_bound 1 (factor_of Values column) (recursion_from_All (λ (e : List Value × ℤ). unsigned_abs (factor_of Values column e.0) ≤ 1) (entries z) (λ i d low. one (get_or (entries z) i d).0))) in
      let small = measurable.few in
      omega arith
    where
      one : (row : List Value) → unsigned_abs (factor_of Values column row) ≤ 1
      one row = elim (has_value column row) as (λ b. unsigned_abs (cond b (pos 1) (pos 0)) ≤ 1) [ true ↦ lit≤ tt | false ↦ lit≤ tt ]

  pub numbers_bound : (column : ℕ) → unsigned_abs (sum_in column z) ≤ 2 ^ 125
  numbers_bound column =
      let all = whole_bound (2 ^ 63) (number_at column) (factors Numbers column) in
      let small = measurable.few in
      omega arith

pub fits_128 : (n : ℤ) → unsigned_abs n ≤ 2 ^ 126 → FitsSigned w128 n
fits_128 n h = fits_signed_from_abs w128 n (omega arith)

within_64 : (n : ℤ) → unsigned_abs n ≤ 2 ^ 62 → FitsSigned w64 n
within_64 n h = fits_signed_from_abs w64 n (omega arith)

back_128 : (n : ℤ) → unsigned_abs n ≤ 2 ^ 62 → to_z w128 (of_z w128 n) ≡ n
back_128 n h = kept_128 n (2 ^ 62) h (lit≤ tt)

-- a number of at most 2^61 is kept from 128 bits to 64
pub fits_64 : (n : ℤ) → unsigned_abs n ≤ 2 ^ 62 → FitsSigned w64 (to_z w128 (of_z w128 n))
fits_64 n h = subst (FitsSigned w64) (sym (back_128 n h)) (within_64 n h)

pub back_64 : (n : ℤ) → unsigned_abs n ≤ 2 ^ 62 → to_z w64 (of_z w64 (to_z w128 (of_z w128 n))) ≡ n
back_64 n h = ap (λ m. to_z w64 (of_z w64 m)) (back_128 n h) ∙ to_z-of_z (within_64 n h)
