-- The row that is shown of a group, before and after a change.
--     as_rows r                   the Z-set of a row, or of none
--     ShowsRow parts c r          the row r, or none, is all that a trace holds under the group c
--     is_hidden stands c rows     whether a group with so many rows shows none: only the standing group shows a row without any
--     shown_row stands calls c z  the row that is shown of the group with the rows z
--     GroupState spec accs ordered c changed, OnState .. P      what is taken for granted of a group and its change, and what P says of it
--     FirstSum calls z sum        the first SUM of the calls over z that is no BIGINT
--     group_cost spec n           the steps at most for a group of which n rows changed
use Rattle.std.specs.Prelude.{◌≡◌, ℕ, ◌+◌, ◌^◌, ◌≤ℤ◌, ◌&&◌, not, Bool, if◌then◌else◌, List, [], ◌∷◌, length, ℤ, pos, Option, Some, None}
use Rattle.std.specs.Ordering.{int_eq}
use Rattle.sq_value.specs.Order.{row_cmp}
use Rattle.sq_algebra.specs.Groups.{integers}
use Rattle.sq_algebra.specs.Operators.{IsNonNegative}
use Rattle.sq_algebra.specs.ZSet.{entries, of_list, plus, total, weight}
use Rattle.sq_expr.specs.Bigint.{first_not_bigint}
use Rattle.sq_ops.specs.Aggregates.{SuitsSpec, group_row, rows_of_group, sums_of}
use Rattle.sq_ops.specs.Fits.{FitsRows}
use Rattle.sq_ops.specs.Wholes.{has_no_values}
use Rattle.sq_ops.specs.declared.aggregate.AggSpec.{AggSpec}
use Rattle.sq_ops.specs.declared.aggregate.Call.{Call}
use Rattle.sq_trace.specs.Runs.{content}
use Rattle.sq_agg.specs.Kept.{HoldsAccumulators, HoldsArguments, KeptAccumulators, Row, Rows}
use Rattle.sq_agg.specs.Stepping.{KeptWeights, calls_cost}

abbrev pub as_rows : Option Row → Rows
as_rows None = of_list row_cmp []
as_rows (Some r) = of_list row_cmp (r ∷ [])

pub record ShowsRow (parts : KeptWeights) (c : Row) (r : Option Row) : Type 0 where
  pub shown : (row : Row) → content integers (c, row) parts ≡ weight row (as_rows r)

abbrev pub is_hidden : Bool → Row → ℤ → Bool
is_hidden stands c rows = int_eq rows (pos 0) && not (stands && has_no_values c)

abbrev pub shown_row : Bool → List Call → Row → Rows → Option Row
shown_row stands calls c z = if has_no_values (entries z) && not (stands && has_no_values c) then None else Some (group_row calls c z)

-- old rows of which the traces hold the accumulators and the arguments, and a change of them of which a group has these changed rows
pub record GroupState (spec : AggSpec) (accs : KeptAccumulators) (ordered : KeptWeights) (c : Row) (changed : Rows) : Type 0 where
  pub old : Rows
  pub change : Rows
  pub accumulators : HoldsAccumulators spec accs old
  pub arguments : HoldsArguments spec ordered old
  pub part : rows_of_group spec change c ≡ changed
  pub fits : FitsRows (SuitsSpec spec) (plus old change)
  pub not_negative : IsNonNegative (plus old change)
  pub bounded : total (plus old change) ≤ℤ pos (2 ^ 61)

-- what holds of the rows of the group after the change, whatever old rows the traces hold
abbrev pub OnState : AggSpec → KeptAccumulators → KeptWeights → Row → Rows → (Rows → Type 0) → Type 0
OnState spec accs ordered c changed P = (s : GroupState spec accs ordered c changed) → P (rows_of_group spec (plus s.old s.change) c)

-- the first SUM of the calls over z that is no BIGINT
abbrev pub FirstSum : List Call → Rows → ℤ → Type 0
FirstSum calls z sum = first_not_bigint (sums_of calls z) ≡ Some sum

-- the steps at most for a group of which so many rows changed
abbrev pub group_cost : AggSpec → ℕ → ℕ
group_cost spec n = 3 + calls_cost (length spec.calls) n
