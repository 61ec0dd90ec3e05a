-- The counts and sums of calls over few rows lie in their ranges.
use Rattle.std.proofs.Common.{◌≡◌, ℕ, ◌^◌, ◌<◌, ◌≤◌, ◌+ℤ◌, ℤ, pos, Bool, true, false, cond, if◌then◌else◌, List, [], ◌∷◌, map, unsigned_abs, Some, None, sym, ap, ap₂, subst, ◌∙◌, to_z, of_z, lit≤, arith}
use mir.Syntax.{w64, w128}
use Rattle.std.specs.List.{AllByRecursion}
use Rattle.sq_value.specs.declared.value.Value.{Value}
use Rattle.sq_value.specs.Order.{row_cmp}
use Rattle.sq_algebra.specs.ZSet.{ZSet}
use Rattle.sq_expr.specs.declared.expr.Func.{Func}
use Rattle.sq_expr.specs.declared.expr.Func.TheVariants.{CountAll, Count, Sum, Min, Max}
use Rattle.sq_ops.specs.declared.aggregate.Call.{Call}
use Rattle.sq_ops.specs.Aggregates.{count_in, has_value}
use Rattle.sq_ops.specs.Measures.{IsMeasurable, weighted}
use Rattle.sq_ops.proofs.Measuring.{count_bound, count_of_one, numbers_bound, total_bound}
use Rattle.sq_zset.proofs.Entries.{kept_128}
use Rattle.sq_agg.specs.declared.tally.Tally.{Tally}
use Rattle.sq_agg.specs.Accumulators.{call_count, call_sum, call_tally, is_count_in_range, is_sum_in_range}
use Rattle.sq_agg.specs.Tallies.{IsWithin, both, first_of_tally}
use Rattle.sq_agg.proofs.Holding.{kept_bound}

module _ (z : ZSet (List Value) row_cmp) (measurable : IsMeasurable z) where
  count_within : (f : Func) (column : ℕ) → unsigned_abs (call_count f column z) ≤ 2 ^ 62
  count_within CountAll column = total_bound z measurable
  count_within Count column = count_bound z measurable column
  count_within Sum column = count_bound z measurable column
  count_within Min column = count_bound z measurable column
  count_within Max column = count_bound z measurable column

  sum_within : (f : Func) (column : ℕ) → unsigned_abs (call_sum f column z) < 2 ^ 126
  sum_within CountAll column = lit≤ tt
  sum_within Count column = lit≤ tt
  sum_within Sum column = let bound = numbers_bound z measurable column in omega arith
  sum_within Min column = lit≤ tt
  sum_within Max column = lit≤ tt

  pub all_tallies_within : (calls : List Call) → AllByRecursion IsWithin (map (call_tally z) calls)
  all_tallies_within [] = tt
  all_tallies_within (call ∷ calls) = (record { count = count_within call.func call.arg; sum = sum_within call.func call.arg }, all_tallies_within calls)

-- a sum outside its range is told, if its count is inside
pub sum_told : (s t : Tally) (n : ℤ) → is_count_in_range (s.count +ℤ t.count) ≡ true → is_sum_in_range (s.sum +ℤ t.sum) ≡ false → n ≡ s.sum +ℤ t.sum → first_of_tally (both s t) ≡ Some n
sum_told s t n inside out is =
    ap₂ (λ a b. if a then (if b then None else Some (s.sum +ℤ t.sum)) else Some (s.count +ℤ t.count)) inside out ∙ ap Some (sym is)

-- ---- one row
cond_bound : (b : Bool) (n : ℤ) → unsigned_abs n ≤ 2 ^ 62 → unsigned_abs (cond b n (pos 0)) ≤ 2 ^ 62
cond_bound true n h = h
cond_bound false n h = lit≤ tt

pub row_count_within : (column : ℕ) (row : List Value) (n m : ℤ) → unsigned_abs n ≤ 2 ^ 62 → m ≡ count_in column (weighted row n) → unsigned_abs (to_z w64 (of_z w64 m)) ≤ 2 ^ 62
row_count_within column row n m h is = kept_bound m (subst (λ k. unsigned_abs k ≤ 2 ^ 62) (sym (is ∙ count_of_one column row n)) (cond_bound (has_value column row) n h))

pub row_sum_within : (s : ℤ) → unsigned_abs s ≤ 2 ^ 125 → unsigned_abs (to_z w128 (of_z w128 s)) < 2 ^ 126
row_sum_within s h = subst (λ k. unsigned_abs k < 2 ^ 126) (sym (kept_128 s (2 ^ 125) h (lit≤ tt))) (omega arith)
