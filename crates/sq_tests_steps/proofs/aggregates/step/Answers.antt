use Rattle.std.proofs.Common.{rules, subst}
use Rattle.sq_join.specs.Stepping.{IsSmall}
use Rattle.sq_ops.specs.Aggregates.{SuitsSpec}
use Rattle.sq_ops.specs.Fits.{FitsRows}
use Rattle.sq_tests_steps.proofs.Following.{state}
use Rattle.sq_tests_steps.proofs.aggregates.step.Goals as goal

pub agg_step-requires : goal.agg_step-requires
agg_step-requires c =
    let change_fits : FitsRows (SuitsSpec c.args.spec.now) c.args.d.now = search rules in
    let new_fits : FitsRows (SuitsSpec c.args.spec.now) c.args.new.now = search rules in
    let small : IsSmall c.args.new.now = search rules in
    record { state = state c.args.spec.now c.args.first c.args.kept.now.acc c.args.kept.now.ordered c.args.kept.now.shown c.args.kept.now.rows c.args.d.now c.args.new.now c.requires.follows change_fits new_fits small c.requires.new }

pub returns-clause-stepped : goal.returns-clause-stepped
returns-clause-stepped c =
    let change_fits : FitsRows (SuitsSpec c.args.spec.now) c.args.d.now = search rules in
    let new_fits : FitsRows (SuitsSpec c.args.spec.now) c.args.new.now = search rules in
    let small : IsSmall c.args.new.now = search rules in
    let s = state c.args.spec.now c.args.first c.args.kept.now.acc c.args.kept.now.ordered c.args.kept.now.shown c.args.kept.now.rows c.args.d.now c.args.new.now c.requires.follows change_fits new_fits small c.requires.new in
    record {
      accumulators = c.in_ok-change.ensures.acc s;
      arguments = c.in_ok-change.ensures.ordered s;
      shown_rows = c.in_ok-change.ensures.shown s;
      ready = record { fits = subst (λ z. FitsRows (SuitsSpec c.args.spec.now) z) c.requires.new new_fits; not_negative = s.not_negative; bounded = s.bounded; all_sums = c.in_ok-change.ensures.all_sums s };
    }
