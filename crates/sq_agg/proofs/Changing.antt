-- A group after a change: its accumulator follows the change, and lies in the range.
use Rattle.std.proofs.Common.{◌≡◌, ◌∙◌, [], ap, sym, None}
use Rattle.sq_algebra.specs.ZSet.{plus}
use Rattle.sq_ops.specs.Aggregates.{SuitsSpec, group_of, rows_of_group}
use Rattle.sq_ops.specs.declared.aggregate.AggSpec.{AggSpec}
use Rattle.sq_ops.proofs.Grouping.{fitting_group}
use Rattle.sq_zset.proofs.RowKeys.{at_key-plus}
use Rattle.sq_agg.specs.Accumulators.{accumulated, first_number_outside}
use Rattle.sq_agg.specs.Kept.{KeptAccumulators, Row, Rows, group_accumulator, kept_accumulator}
use Rattle.sq_agg.specs.Shifts.{GroupState}
use Rattle.sq_agg.specs.Stepping.{Accumulator, KeptWeights, OnGroup}
use Rattle.sq_agg.proofs.Adding.{accumulated-IsAdditive}
use Rattle.sq_agg.proofs.Following.{accumulated_within}
use Rattle.sq_agg.proofs.Keys.{group_bounded, group_fits, group_not_negative}

module _ (spec : AggSpec) (accs : KeptAccumulators) (ordered : KeptWeights) (c : Row) (changed : Rows) (s : GroupState spec accs ordered c changed) where
  pub followed : plus (kept_accumulator accs c) (accumulated spec.calls changed) ≡ group_accumulator spec (plus s.old s.change) c
  followed =
      ap (λ y. plus (kept_accumulator accs c) (accumulated spec.calls y)) (sym s.part)
      ∙ ap (λ acc. plus acc (accumulated spec.calls (rows_of_group spec s.change c))) (s.accumulators.held c [])
      ∙ sym (ap (accumulated spec.calls) (at_key-plus (group_of spec) c s.old s.change) ∙ (accumulated-IsAdditive spec.calls).of_plus (rows_of_group spec s.old c) (rows_of_group spec s.change c))

  pub whole_within : (change : Accumulator) → change ≡ accumulated spec.calls changed → first_number_outside (plus (kept_accumulator accs c) change) ≡ None
  whole_within change is =
      ap (λ x. first_number_outside (plus (kept_accumulator accs c) x)) is ∙ ap first_number_outside followed
      ∙ accumulated_within (rows_of_group spec (plus s.old s.change) c)
      (fitting_group (SuitsSpec spec) (rows_of_group spec (plus s.old s.change) c) (group_fits spec c (plus s.old s.change) s.fits) (group_not_negative spec c (plus s.old s.change) s.not_negative) (group_bounded spec c (plus s.old s.change) s.not_negative s.bounded))
      spec.calls

  -- what holds of the group for any old rows, by the accumulator after the change, holds of these old rows
  pub told : (P : Rows → Type 0) (acc change : Accumulator) → acc ≡ plus (kept_accumulator accs c) change → change ≡ accumulated spec.calls changed → OnGroup spec ordered c changed acc P → P (rows_of_group spec (plus s.old s.change) c)
  told P acc change made is all = all (record {
    old = s.old;
    change = s.change;
    held = s.arguments;
    proper = s.not_negative;
    part = s.part;
    counted = made ∙ ap (plus (kept_accumulator accs c)) is ∙ followed;
  })
