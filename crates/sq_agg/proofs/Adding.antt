-- Accumulators are added, negated and measured number by number.
use Rattle.std.proofs.Common.{◌≡◌, ℕ, zero, suc, List, [], ◌∷◌, map, Bool, true, false, cond, ℤ, pos, ◌+ℤ◌, neg_ℤ, Some, refl, sym, ap, ap₂, ◌∙◌, arith, is_eq}
use Rattle.std.specs.Cmp.{nat_cmp_total}
use Rattle.std.specs.FinMap.{nat_cmp-IsAntisymmetric}
use Rattle.std.specs.Ordering.{nat_cmp}
use Rattle.std.specs.Prelude.{slice_get}
use Rattle.std.proofs.lemmas.Option.{same_Some}
use borrow.Author.Differences.{ints}
use Rattle.sq_value.specs.declared.value.Value.{Value}
use Rattle.sq_value.specs.Order.{row_cmp}
use Rattle.sq_value.specs.OrderLaws.{row_cmp-total, row_cmp-antisymmetric}
use Rattle.sq_algebra.specs.Groups.{IsAdditive, integers, sum_over, z_sets}
use Rattle.sq_algebra.specs.Operators.{keep}
use Rattle.sq_algebra.specs.ZSet.{ZSet, entries, from_pairs, negate, of_list, plus, total, weight, weight_in, zero as no_rows}
use Rattle.sq_algebra.proofs.EntryLemmas.{from_pairs-entries}
use Rattle.sq_algebra.proofs.GroupLemmas.{additive-zero}
use Rattle.sq_algebra.proofs.OperatorLemmas.{of_list-nil}
use Rattle.sq_algebra.proofs.Weights.{same_weights, weight-from_pairs, weight-negate, weight-plus}
use Rattle.sq_expr.specs.declared.expr.Func.{Func}
use Rattle.sq_expr.specs.declared.expr.Func.TheVariants.{CountAll, Count, Sum, Min, Max}
use Rattle.sq_zset.proofs.RowOperators.{keep-IsAdditive, lin-IsAdditive}
use Rattle.sq_zset.proofs.Rows.{from_pairs-append, total-plus}
use Rattle.sq_zset.specs.GroupLaws.{integers_are_abelian, rows_are_abelian}
use Rattle.sq_ops.specs.declared.aggregate.Call.{Call}
use Rattle.sq_ops.specs.Aggregates.{count_in, has_value, number_at, sum_in}
use Rattle.sq_ops.specs.Measures.{weighted}
use Rattle.sq_agg.specs.declared.tally.Tally.{Tally}
use Rattle.sq_agg.specs.Accumulators.{accumulated, accumulator, call_count, call_sum, call_tally, count_place, sum_place, tallied}
use Rattle.sq_agg.specs.GroupLaws.{accumulators_are_abelian}
use Rattle.sq_agg.specs.Tallies.{both, no_tally, summed, tally_or_none, turned}
use Rattle.sq_agg.proofs.PlaceOrder.{weight_of_count, weight_of_rows, weight_of_sum}

-- ---- sums
sum_if : (b : Bool) (m n : ℤ) → cond b (m +ℤ n) (pos 0) ≡ cond b m (pos 0) +ℤ cond b n (pos 0)
sum_if true m n = refl
sum_if false m n = refl

none_if : (b : Bool) → ◌≡◌ {A = ℤ} (cond b (pos 0) (pos 0)) (pos 0)
none_if true = refl
none_if false = refl

module _ (k : ℕ) where
  -- what one call brings to a place
  abbrev brought : ℕ → Tally → ℤ
  brought i t = cond (is_eq (nat_cmp k (count_place i))) t.count (pos 0) +ℤ cond (is_eq (nat_cmp k (sum_place i))) t.sum (pos 0)

  brought_both : (i : ℕ) (s t : Tally) → brought i (both s t) ≡ brought i s +ℤ brought i t
  brought_both i s t =
      let first = sum_if (is_eq (nat_cmp k (count_place i))) s.count t.count in
      let second = sum_if (is_eq (nat_cmp k (sum_place i))) s.sum t.sum in
      omega (arith, ints)

  brought_none : (i : ℕ) → brought i no_tally ≡ pos 0
  brought_none i =
      let first = none_if (is_eq (nat_cmp k (count_place i))) in
      let second = none_if (is_eq (nat_cmp k (sum_place i))) in
      omega (arith, ints)

  summed_weights : (i : ℕ) (ss ts : List Tally) → weight_in nat_cmp k (tallied i (summed ss ts)) ≡ weight_in nat_cmp k (tallied i ss) +ℤ weight_in nat_cmp k (tallied i ts)
  summed_weights i [] [] = refl
  summed_weights i [] (t ∷ ts) = let first = brought_both i no_tally t in let none = brought_none i in let rest = summed_weights (suc i) [] ts in omega (arith, ints)
  summed_weights i (s ∷ ss) [] = let first = brought_both i s no_tally in let none = brought_none i in let rest = summed_weights (suc i) ss [] in omega (arith, ints)
  summed_weights i (s ∷ ss) (t ∷ ts) = let first = brought_both i s t in let rest = summed_weights (suc i) ss ts in omega (arith, ints)

pub added : (m n : ℤ) (ss ts : List Tally) → accumulator (m +ℤ n) (summed ss ts) ≡ plus (accumulator m ss) (accumulator n ts)
added m n ss ts = same_weights nat_cmp nat_cmp_total nat_cmp-IsAntisymmetric (accumulator (m +ℤ n) (summed ss ts)) (plus (accumulator m ss) (accumulator n ts)) (λ k.
    let left = weight-from_pairs nat_cmp nat_cmp_total k ((0, m +ℤ n) ∷ tallied 0 (summed ss ts)) in
    let first = weight-from_pairs nat_cmp nat_cmp_total k ((0, m) ∷ tallied 0 ss) in
    let second = weight-from_pairs nat_cmp nat_cmp_total k ((0, n) ∷ tallied 0 ts) in
    let right = weight-plus nat_cmp nat_cmp_total k (accumulator m ss) (accumulator n ts) in
    let rows = sum_if (is_eq (nat_cmp k 0)) m n in
    let rest = summed_weights k 0 ss ts in
    omega (arith, ints))

-- ---- negations
negation_if : (b : Bool) (n : ℤ) → cond b (neg_ℤ n) (pos 0) ≡ neg_ℤ (cond b n (pos 0))
negation_if true n = refl
negation_if false n = refl

turned_weights : (k i : ℕ) (ts : List Tally) → weight_in nat_cmp k (tallied i (map turned ts)) ≡ neg_ℤ (weight_in nat_cmp k (tallied i ts))
turned_weights k i [] = refl
turned_weights k i (t ∷ ts) =
    let first = negation_if (is_eq (nat_cmp k (count_place i))) t.count in
    let second = negation_if (is_eq (nat_cmp k (sum_place i))) t.sum in
    let rest = turned_weights k (suc i) ts in
    omega (arith, ints)

pub subtracted : (n : ℤ) (ts : List Tally) → accumulator (neg_ℤ n) (map turned ts) ≡ negate (accumulator n ts)
subtracted n ts = same_weights nat_cmp nat_cmp_total nat_cmp-IsAntisymmetric (accumulator (neg_ℤ n) (map turned ts)) (negate (accumulator n ts)) (λ k.
    let left = weight-from_pairs nat_cmp nat_cmp_total k ((0, neg_ℤ n) ∷ tallied 0 (map turned ts)) in
    let first = weight-from_pairs nat_cmp nat_cmp_total k ((0, n) ∷ tallied 0 ts) in
    let right = weight-negate nat_cmp nat_cmp_total k (accumulator n ts) in
    let rows = negation_if (is_eq (nat_cmp k 0)) n in
    let rest = turned_weights k 0 ts in
    omega (arith, ints))

-- ---- the accumulator of rows
module _ (y z : ZSet (List Value) row_cmp) where
  count_in_both : (column : ℕ) → count_in column (plus y z) ≡ count_in column y +ℤ count_in column z
  count_in_both column = ap total ((keep-IsAdditive (has_value column)).of_plus y z) ∙ total-plus (keep (has_value column) y) (keep (has_value column) z)

  sum_in_both : (column : ℕ) → sum_in column (plus y z) ≡ sum_in column y +ℤ sum_in column z
  sum_in_both column = (lin-IsAdditive integers integers_are_abelian (number_at column)).of_plus y z

  call_count_both : (f : Func) (column : ℕ) → call_count f column (plus y z) ≡ call_count f column y +ℤ call_count f column z
  call_count_both CountAll column = total-plus y z
  call_count_both Count column = count_in_both column
  call_count_both Sum column = count_in_both column
  call_count_both Min column = count_in_both column
  call_count_both Max column = count_in_both column

  call_sum_both : (f : Func) (column : ℕ) → call_sum f column (plus y z) ≡ call_sum f column y +ℤ call_sum f column z
  call_sum_both CountAll column = refl
  call_sum_both Count column = refl
  call_sum_both Sum column = sum_in_both column
  call_sum_both Min column = refl
  call_sum_both Max column = refl

  tallies_both : (calls : List Call) → map (call_tally (plus y z)) calls ≡ summed (map (call_tally y) calls) (map (call_tally z) calls)
  tallies_both [] = refl
  tallies_both (call ∷ calls) = ap₂ (λ t ts. t ∷ ts) (ap₂ tally (call_count_both call.func call.arg) (call_sum_both call.func call.arg)) (tallies_both calls)
    where
      tally : ℤ → ℤ → Tally
      tally m n = record { count = m; sum = n }

pub accumulated-IsAdditive : (calls : List Call) → IsAdditive (z_sets row_cmp) (z_sets nat_cmp) (accumulated calls)
accumulated-IsAdditive calls = record {
  of_plus = λ y z. ap₂ accumulator (total-plus y z) (tallies_both y z calls) ∙ added (total y) (total z) (map (call_tally y) calls) (map (call_tally z) calls);
}

pub accumulated-zero : (calls : List Call) → accumulated calls (no_rows row_cmp) ≡ no_rows nat_cmp
accumulated-zero calls = additive-zero (z_sets row_cmp) (z_sets nat_cmp) rows_are_abelian accumulators_are_abelian (accumulated calls) (accumulated-IsAdditive calls)

-- ---- its numbers
mapped_tally : {X : Type 0} (g : X → Tally) (xs : List X) (i : ℕ) (x : X) → slice_get xs i ≡ Some x → tally_or_none i (map g xs) ≡ g x
mapped_tally g [] i x e = absurd (cc e)
mapped_tally g (y ∷ ys) zero x e = ap g (same_Some y x e)
mapped_tally g (y ∷ ys) (suc i) x e = mapped_tally g ys i x e

module _ (calls : List Call) (z : ZSet (List Value) row_cmp) where
  pub rows_held : weight 0 (accumulated calls z) ≡ total z
  rows_held = weight_of_rows (total z) (map (call_tally z) calls)

  pub count_held : (i : ℕ) (call : Call) → slice_get calls i ≡ Some call → weight (count_place i) (accumulated calls z) ≡ call_count call.func call.arg z
  count_held i call e = weight_of_count (total z) (map (call_tally z) calls) i ∙ ap (λ t. t.count) (mapped_tally (call_tally z) calls i call e)

  pub sum_held : (i : ℕ) (call : Call) → slice_get calls i ≡ Some call → weight (sum_place i) (accumulated calls z) ≡ call_sum call.func call.arg z
  sum_held i call e = weight_of_sum (total z) (map (call_tally z) calls) i ∙ ap (λ t. t.sum) (mapped_tally (call_tally z) calls i call e)

-- ---- row by row
no_pairs : from_pairs row_cmp [] ≡ no_rows row_cmp
unfolding of_list
no_pairs = of_list-nil row_cmp row_cmp-total row_cmp-antisymmetric

by_rows : (calls : List Call) (es : List (List Value × ℤ)) → accumulated calls (from_pairs row_cmp es) ≡ sum_over (z_sets nat_cmp) (λ e. accumulated calls (weighted e.0 e.1)) es
by_rows calls [] = ap (accumulated calls) no_pairs ∙ accumulated-zero calls
by_rows calls (e ∷ es) =
    ap (accumulated calls) (from_pairs-append ((e.0, e.1) ∷ []) es)
    ∙ (accumulated-IsAdditive calls).of_plus (weighted e.0 e.1) (from_pairs row_cmp es)
    ∙ ap (λ acc. plus (accumulated calls (weighted e.0 e.1)) acc) (by_rows calls es)

pub accumulated-rows : (calls : List Call) (z : ZSet (List Value) row_cmp) → accumulated calls z ≡ sum_over (z_sets nat_cmp) (λ e. accumulated calls (weighted e.0 e.1)) (entries z)
accumulated-rows calls z = ap (accumulated calls) (sym (from_pairs-entries row_cmp row_cmp-total z)) ∙ by_rows calls (entries z)
