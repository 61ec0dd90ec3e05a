-- A step of an aggregate over all groups: what is taken for granted, what it gives, and the steps that it takes.
--     before first z             what is there before: nothing at first
--     HoldsShown first spec parts z c     under the group c the trace holds the row that is shown of its rows in z, and nothing at first
--     touched first spec d       the groups that a step looks at: those with changed rows, and at first the one that stands without rows
--     AggState spec accs ordered shown d first, OnOld .. P      old rows that the traces hold, with the change d, and what P says of them
--     FirstOutside .. answer     the first SUM outside the range of BIGINT after the change
--     aggregate_rise first spec y d       what the aggregate has more over y and d than before
--     IsAfter G parts change now          the parts now hold what the parts and the change give together
--     KeepsAccumulators .. y d, KeepsArguments, KeepsShown      parts that hold what belongs to y, with a change, hold what belongs to y and d
--     AddsNoOthers spec change   the change gives nothing under keys of no arguments
--     LeavesOthers first spec d change    it gives nothing of the groups that the step does not look at
--     agg_cost first spec d      the steps at most
use Rattle.std.specs.Prelude.{◌≡◌, ℕ, ◌^◌, ◌≤ℤ◌, ◌&&◌, not, Bool, true, false, if◌then◌else◌, List, [], length, ℤ, pos, Option, None}
use Rattle.std.specs.List.{All, sum_by}
use Rattle.std.specs.Ordering.{nat_cmp}
use Rattle.sq_value.specs.Order.{row_cmp}
use Rattle.sq_algebra.specs.Groups.{AbelianGroup, integers, z_sets}
use Rattle.sq_algebra.specs.Operators.{IsNonNegative}
use Rattle.sq_algebra.specs.ZSet.{entries, minus, plus, total, weight, zero}
use Rattle.sq_ops.specs.Aggregates.{SuitsSpec, aggregated, first_sum_outside, groups_of, part_of, rows_of_group}
use Rattle.sq_ops.specs.Fits.{FitsRows}
use Rattle.sq_ops.specs.Wholes.{has_no_values}
use Rattle.sq_ops.specs.declared.aggregate.AggSpec.{AggSpec}
use Rattle.sq_trace.specs.Changes.{changed}
use Rattle.sq_trace.specs.declared.entry.Entry.{Entry}
use Rattle.sq_trace.specs.Runs.{Place, at, content}
use Rattle.sq_agg.specs.Kept.{HoldsAccumulators, HoldsArguments, IsOtherKey, KeptAccumulators, Row, Rows}
use Rattle.sq_agg.specs.Shifts.{group_cost}
use Rattle.sq_agg.specs.Stepping.{Accumulator, KeptWeights}

-- ---- what is taken for granted
abbrev pub before : Bool → Rows → Rows
before first z = if first then zero row_cmp else z

pub record HoldsShown (first : Bool) (spec : AggSpec) (parts : KeptWeights) (z : Rows) (c : Row) : Type 0 where
  pub held : (row : Row) → content integers (c, row) parts ≡ weight row (before first (part_of spec.global spec.calls c (rows_of_group spec z c)))

abbrev pub touched : Bool → AggSpec → Rows → List Row
touched first spec d = if has_no_values (entries d) && not first then [] else groups_of spec d

-- The traces hold the old rows. Of shown rows that is asked at the groups alone that a step looks at: a group that stands without rows
-- is shown in one shard alone, and the others never have rows of it.
pub record AggState (spec : AggSpec) (accs : KeptAccumulators) (ordered shown : KeptWeights) (d : Rows) (first : Bool) : Type 0 where
  pub old : Rows
  pub accumulators : HoldsAccumulators spec accs old
  pub arguments : HoldsArguments spec ordered old
  pub shown_before : All (λ c. HoldsShown first spec shown old c) (touched first spec d)
  pub begins : first ≡ true → old ≡ zero row_cmp
  pub old_fits : FitsRows (SuitsSpec spec) old
  pub change_fits : FitsRows (SuitsSpec spec) d
  pub old_not_negative : IsNonNegative old
  pub old_bounded : total old ≤ℤ pos (2 ^ 61)
  pub not_negative : IsNonNegative (plus old d)
  pub bounded : total (plus old d) ≤ℤ pos (2 ^ 61)
  pub all_sums : first_sum_outside spec old ≡ None

module _ (spec : AggSpec) (accs : KeptAccumulators) (ordered shown : KeptWeights) (d : Rows) (first : Bool) where
  abbrev pub OnOld : (Rows → Type 0) → Type 0
  OnOld P = (s : AggState spec accs ordered shown d first) → P s.old

  -- the first SUM outside the range of BIGINT after the change, if there is one
  abbrev pub FirstOutside : Option (Row × ℤ) → Type 0
  FirstOutside answer = OnOld (λ y. first_sum_outside spec (plus y d) ≡ answer)

-- ---- what a step gives
abbrev pub aggregate_rise : Bool → AggSpec → (y d : Rows) → Rows
aggregate_rise first spec y d = minus (aggregated spec (plus y d)) (before first (aggregated spec y))

pub record IsAfter {A : Type 0} (G : AbelianGroup A) (parts : List (List (Entry A))) (change : List (Entry A)) (now : List (List (Entry A))) : Type 0 where
  pub held : (p : Place) → content G p now ≡ changed G parts change p

abbrev pub KeepsAccumulators : AggSpec → KeptAccumulators → List (Entry Accumulator) → (y d : Rows) → Type 0
KeepsAccumulators spec parts change y d = (now : KeptAccumulators) → IsAfter (z_sets nat_cmp) parts change now → HoldsAccumulators spec now (plus y d)

abbrev pub KeepsArguments : AggSpec → KeptWeights → List (Entry ℤ) → (y d : Rows) → Type 0
KeepsArguments spec parts change y d = (now : KeptWeights) → IsAfter integers parts change now → HoldsArguments spec now (plus y d)

-- group by group, also where nothing changes
abbrev pub KeepsShown : Bool → AggSpec → KeptWeights → List (Entry ℤ) → (y d : Rows) → Type 0
KeepsShown first spec parts change y d = (c : Row) → HoldsShown first spec parts y c → (now : KeptWeights) → IsAfter integers parts change now → HoldsShown false spec now (plus y d) c

abbrev pub AddsNoOthers : AggSpec → List (Entry ℤ) → Type 0
AddsNoOthers spec change = (k row : Row) → IsOtherKey spec k → at integers (k, row) change ≡ pos 0

abbrev pub LeavesOthers : Bool → AggSpec → Rows → List (Entry ℤ) → Type 0
LeavesOthers first spec d change = (c row : Row) → All (λ k. k ≡ c → ⊥) (touched first spec d) → at integers (c, row) change ≡ pos 0

-- ---- steps
abbrev pub agg_cost : Bool → AggSpec → Rows → ℕ
agg_cost first spec d = sum_by (λ c. group_cost spec (length (entries (rows_of_group spec d c)))) (touched first spec d)
