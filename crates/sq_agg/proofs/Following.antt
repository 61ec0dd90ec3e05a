-- The accumulator that is kept of a group, and that of its changed rows.
use Rattle.std.proofs.Common.{◌≡◌, ℕ, ◌+◌, ◌≤◌, ◌^◌, ◌<◌, List, [], ◌∷◌, map, ℤ, Option, Some, None, subst, unsigned_abs, sym, ap, ◌∙◌, lit≤, arith}
use Rattle.std.specs.List.{AllByRecursion}
use Rattle.std.specs.Ordering.{nat_cmp}
use Rattle.sq_algebra.specs.Groups.{z_sets}
use Rattle.sq_algebra.specs.ZSet.{plus, total, zero as no_places}
use Rattle.sq_base.specs.Causes.{raised}
use Rattle.sq_expr.specs.declared.expr.Func.{Func}
use Rattle.sq_expr.specs.declared.expr.Func.TheVariants.{CountAll, Count, Sum, Min, Max}
use Rattle.sq_ops.specs.Measures.{IsMeasurable}
use Rattle.sq_ops.specs.declared.aggregate.Call.{Call}
use Rattle.sq_ops.proofs.Measuring.{count_bound, numbers_bound, total_bound}
use Rattle.sq_agg.specs.Accumulators.{accumulated, call_count, call_sum, call_tally, first_number_outside}
use Rattle.sq_agg.specs.GroupLaws.{accumulators_are_abelian}
use Rattle.sq_trace.specs.Changes.{Shows}
use Rattle.sq_trace.specs.Runs.{content}
use Rattle.sq_agg.specs.Kept.{KeptAccumulators, Row, Rows, kept_accumulator}
use Rattle.sq_agg.specs.Stepping.{Accumulator}
use Rattle.sq_agg.specs.Tallies.{IsWithin}
use Rattle.sq_agg.proofs.Bounding.{none_outside}

pub none_kept : (accs : KeptAccumulators) (key row : Row) (answer : Option Accumulator) → row ≡ [] → answer ≡ None → Shows (z_sets nat_cmp) (content (z_sets nat_cmp) (key, row) accs) answer → kept_accumulator accs key ≡ no_places nat_cmp
none_kept accs key row answer is none shows =
    subst (λ r. content (z_sets nat_cmp) (key, r) accs ≡ no_places nat_cmp) is (subst (λ a. Shows (z_sets nat_cmp) (content (z_sets nat_cmp) (key, row) accs) a) none shows)

pub from_nothing : (kept change : Accumulator) → kept ≡ no_places nat_cmp → change ≡ plus kept change
from_nothing kept change none = sym (ap (λ x. plus x change) none ∙ accumulators_are_abelian.neutral change)

pub never_outside : (x : Accumulator) (n : ℤ) → first_number_outside x ≡ None → first_number_outside x ≡ Some n → ⊥
never_outside x n inside outside = absurd (cc (inside, outside))

pub one_step : (before now : ℕ) → now ≡ raised before → now ≤ before + 1
one_step before now is = omega arith

-- ---- the accumulator of few rows lies in the range
module _ (z : Rows) (measurable : IsMeasurable z) where
  count_within : (f : Func) (column : ℕ) → unsigned_abs (call_count f column z) ≤ 2 ^ 62
  count_within CountAll column = total_bound z measurable
  count_within Count column = count_bound z measurable column
  count_within Sum column = count_bound z measurable column
  count_within Min column = count_bound z measurable column
  count_within Max column = count_bound z measurable column

  sum_within : (f : Func) (column : ℕ) → unsigned_abs (call_sum f column z) < 2 ^ 126
  sum_within CountAll column = lit≤ tt
  sum_within Count column = lit≤ tt
  sum_within Sum column = let low = numbers_bound z measurable column in omega arith
  sum_within Min column = lit≤ tt
  sum_within Max column = lit≤ tt

  tallies_within : (calls : List Call) → AllByRecursion IsWithin (map (call_tally z) calls)
  tallies_within [] = tt
  tallies_within (call ∷ calls) = (record { count = count_within call.func call.arg; sum = sum_within call.func call.arg }, tallies_within calls)

  pub accumulated_within : (calls : List Call) → first_number_outside (accumulated calls z) ≡ None
  accumulated_within calls = none_outside (total z) (map (call_tally z) calls) (record { rows = total_bound z measurable; tallies = tallies_within calls })
