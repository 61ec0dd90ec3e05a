-- Rows, and traces that hold what an aggregate keeps of them.
--     Follows first spec accs ordered shown z      the traces hold the rows z, which suit the aggregate and are few; at first there are none
--     IsCommitted before rows change now      the changes of the traces are in place
--     Stepped .. change      what the changes of the traces keep, and that the rows suit after the change too
use Rattle.std.specs.Prelude.{◌≡◌, ◌^◌, ◌≤ℤ◌, Bool, true, pos, None}
use Rattle.sq_value.specs.Order.{row_cmp}
use Rattle.std.specs.Ordering.{nat_cmp}
use Rattle.sq_algebra.specs.Groups.{integers, z_sets}
use Rattle.sq_algebra.specs.Operators.{IsNonNegative}
use Rattle.sq_algebra.specs.ZSet.{plus, total, zero}
use Rattle.sq_ops.specs.Aggregates.{SuitsSpec, first_sum_outside}
use Rattle.sq_ops.specs.Fits.{FitsRows}
use Rattle.sq_ops.specs.declared.aggregate.AggSpec.{AggSpec}
use Rattle.sq_agg.specs.Aggregating.{HoldsShown, IsAfter, KeepsAccumulators, KeepsArguments, KeepsShown}
use Rattle.sq_agg.specs.declared.step.AggChange.{AggChange}
use Rattle.sq_agg.specs.Kept.{HoldsAccumulators, HoldsArguments, KeptAccumulators, Row, Rows}
use Rattle.sq_agg.specs.Stepping.{KeptWeights}
use Rattle.sq_tests_steps.specs.declared.followed.Followed.{Followed as Outcome}
use Rattle.sq_tests_steps.specs.declared.followed.Kept.{Kept as Keeping}

-- the rows suit the aggregate, and no SUM over them lies outside the range of BIGINT
pub record AreReady (spec : AggSpec) (z : Rows) : Type 0 where
  pub fits : FitsRows (SuitsSpec spec) z
  pub not_negative : IsNonNegative z
  pub bounded : total z ≤ℤ pos (2 ^ 61)
  pub all_sums : first_sum_outside spec z ≡ None

pub record Follows (first : Bool) (spec : AggSpec) (accs : KeptAccumulators) (ordered shown : KeptWeights) (z : Rows) : Type 0 where
  pub accumulators : HoldsAccumulators spec accs z
  pub arguments : HoldsArguments spec ordered z
  pub shown_rows : (c : Row) → HoldsShown first spec shown z c
  pub begins : first ≡ true → z ≡ zero row_cmp
  pub ready : AreReady spec z

pub record Stepped (first : Bool) (spec : AggSpec) (accs : KeptAccumulators) (ordered shown : KeptWeights) (z d : Rows) (change : AggChange) : Type 0 where
  pub accumulators : KeepsAccumulators spec accs change.acc z d
  pub arguments : KeepsArguments spec ordered change.ordered z d
  pub shown_rows : KeepsShown first spec shown change.shown z d
  pub ready : AreReady spec (plus z d)

-- what is kept now is what was kept with the changes in place, and these rows
pub record IsCommitted (before : Keeping) (rows : Rows) (change : AggChange) (now : Outcome) : Type 0 where
  pub accumulators : IsAfter (z_sets nat_cmp) before.acc change.acc now.kept.acc
  pub arguments : IsAfter integers before.ordered change.ordered now.kept.ordered
  pub shown_rows : IsAfter integers before.shown change.shown now.kept.shown
  pub new : now.kept.rows ≡ rows
