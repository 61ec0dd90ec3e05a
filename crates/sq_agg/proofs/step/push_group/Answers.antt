use Rattle.std.proofs.Common.{◌≡◌, ◌≤◌, ◌^◌, subst, sym, Err, None}
use Rattle.std.proofs.lemmas.Result.{err_from_is_err_and}
use Rattle.sq_algebra.specs.ZSet.{entries}
use Rattle.sq_expr.specs.Bigint.{first_not_bigint}
use Rattle.sq_ops.proofs.Grouping.{fitting_change}
use Rattle.sq_ops.specs.Aggregates.{SuitsSpec, rows_of_group, sums_of}
use Rattle.sq_ops.specs.Fits.{FitsRows}
use Rattle.sq_ops.specs.declared.whole.WholeFault.TheVariants.{Sum}
use Rattle.sq_zset.specs.Collecting.{mass_of}
use Rattle.sq_agg.specs.Shifts.{FirstSum, GroupState}
use Rattle.sq_agg.proofs.Going.{moves_shown, same_state}
use Rattle.sq_agg.proofs.Keys.{group_fits}
use Rattle.sq_agg.proofs.Touching.{group_few}
use Rattle.sq_agg.proofs.step.push_group.Goals as goal

pub rows_at-requires-clause-group : goal.rows_at-requires-clause-group
rows_at-requires-clause-group g c = fitting_change (SuitsSpec c.args.spec.now) c.args.d.now c.requires.fits c.requires.few

pub change_of_group-requires-clause-state : goal.change_of_group-requires-clause-state
change_of_group-requires-clause-state g c = subst (λ y. GroupState c.args.spec.now c.args.acc.now c.args.ordered.now c.args.key.now y) (sym c.in_ok-changed.ensures) c.requires.state

pub change_of_group-requires-clause-fits : goal.change_of_group-requires-clause-fits
change_of_group-requires-clause-fits g c = subst (λ y. FitsRows (SuitsSpec c.args.spec.now) y) (sym c.in_ok-changed.ensures) (group_fits c.args.spec.now c.args.key.now c.args.d.now c.requires.fits)

pub change_of_group-requires-clause-few : goal.change_of_group-requires-clause-few
change_of_group-requires-clause-few g c = subst (λ y. mass_of (entries y) ≤ 2 ^ 62) (sym c.in_ok-changed.ensures) (group_few c.args.spec.now c.args.key.now c.args.d.now c.requires.few)

pub push_arguments-requires : goal.push_arguments-requires
push_arguments-requires g c = subst (λ y. mass_of (entries y) ≤ 2 ^ 62) (sym c.in_ok-changed.ensures) (group_few c.args.spec.now c.args.key.now c.args.d.now c.requires.few)

pub returns-in_err-change-clause-outside : goal.returns-in_err-change-clause-outside
returns-in_err-change-clause-outside g c group sum e =
    let (fault, is, same) = err_from_is_err_and c.from_residual-in_err-change.result c.from_residual-in_err-change.ensures.1 in
    let failed : c.change_of_group.result ≡ Err (Sum group sum) = cc (c.in_err-change.was, is, same, e) in
    let out = c.change_of_group.ensures.outside group sum failed in (
      out.0,
      same_state c.args.spec.now c.args.acc.now c.args.ordered.now c.args.shown.now c.args.key.now c.in_ok-changed.changed (rows_of_group c.args.spec.now c.args.d.now c.args.key.now) c.in_ok-changed.ensures (λ z. FirstSum c.args.spec.now.calls z sum) out.1,
    )

pub returns-clause-shown : goal.returns-clause-shown
returns-clause-shown g c =
    moves_shown c.args.spec.now c.args.acc.now c.args.ordered.now c.args.shown.now c.args.key.now c.in_ok-changed.changed (rows_of_group c.args.spec.now c.args.d.now c.args.key.now) c.in_ok-changed.ensures
    c.in_ok-change.change.before c.in_ok-change.change.after c.args.entered.now.shown.items c.push_shown.new.shown.items c.in_ok-push_shown.ensures c.in_ok-change.ensures.before c.in_ok-change.ensures.after

pub returns-clause-all_sums : goal.returns-clause-all_sums
returns-clause-all_sums g c =
    same_state c.args.spec.now c.args.acc.now c.args.ordered.now c.args.shown.now c.args.key.now c.in_ok-changed.changed (rows_of_group c.args.spec.now c.args.d.now c.args.key.now) c.in_ok-changed.ensures
    (λ z. first_not_bigint (sums_of c.args.spec.now.calls z) ≡ None) c.in_ok-change.ensures.all_sums
