use Rattle.std.proofs.Common.{◌^◌, ◌≤ℤ◌, pos, subst, sym}
use Rattle.sq_algebra.specs.Operators.{IsNonNegative}
use Rattle.sq_algebra.specs.ZSet.{total}
use Rattle.sq_ops.specs.Aggregates.{SuitsSpec}
use Rattle.sq_ops.specs.Fits.{FitsRows}
use Rattle.sq_ops.proofs.Grouping.{fitting_group}
use Rattle.sq_agg.proofs.Keys.{group_bounded, group_fits, group_not_negative}
use Rattle.sq_agg.proofs.whole.row_of_key.Goals as goal

pub rows_at-requires-clause-group : goal.rows_at-requires-clause-group
rows_at-requires-clause-group c = fitting_group (SuitsSpec c.args.spec.now) c.args.z.now c.requires.fits c.requires.not_negative c.requires.bounded

pub row_of_group-requires-clause-fits : goal.row_of_group-requires-clause-fits
row_of_group-requires-clause-fits c = subst (λ y. FitsRows (SuitsSpec c.args.spec.now) y) (sym c.in_ok-group.ensures) (group_fits c.args.spec.now c.args.key.now c.args.z.now c.requires.fits)

pub row_of_group-requires-clause-not_negative : goal.row_of_group-requires-clause-not_negative
row_of_group-requires-clause-not_negative c = subst (λ y. IsNonNegative y) (sym c.in_ok-group.ensures) (group_not_negative c.args.spec.now c.args.key.now c.args.z.now c.requires.not_negative)

pub row_of_group-requires-clause-bounded : goal.row_of_group-requires-clause-bounded
row_of_group-requires-clause-bounded c = subst (λ y. total y ≤ℤ pos (2 ^ 61)) (sym c.in_ok-group.ensures) (group_bounded c.args.spec.now c.args.key.now c.args.z.now c.requires.not_negative c.requires.bounded)
