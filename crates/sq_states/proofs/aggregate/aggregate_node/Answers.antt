use Rattle.std.proofs.Common.{refl, ap, ◌∙◌}
use Rattle.std.specs.Prelude.{Err}
use Rattle.std.proofs.lemmas.Result.{err_from_is_err_and}
use Rattle.sq_states.proofs.GroupSteps.{group_refused, group_steps}
use Rattle.sq_states.proofs.aggregate.aggregate_node.Goals as goal

pub returns-in_err-made-clause-stepped : goal.returns-in_err-made-clause-stepped
returns-in_err-made-clause-stepped g c i right =
    let (refusal, is, same) = err_from_is_err_and c.from_residual.result c.from_residual.ensures.1 in
    group_refused i c.args.spec.now c.args.acc.now c.args.ordered.now c.args.shown.now c.args.d.now right c.args.first c.args.steps.now.count c.agg_step.new.steps.count c.agg_step.ensures.count c.in_err-made.field-0.0
    (λ group sum e. c.agg_step.ensures.outside group sum (c.in_err-made.was ∙ ap Err e))
    c.from_residual.result refusal is same

pub returns-clause-stepped : goal.returns-clause-stepped
returns-clause-stepped g c i right =
    group_steps i c.args.spec.now c.args.acc.now c.args.ordered.now c.args.shown.now c.args.d.now right c.args.first c.args.steps.now.count c.agg_step.new.steps.count _
    c.in_ok-made.made.acc c.in_ok-made.made.ordered c.in_ok-made.made.shown refl c.in_ok-made.ensures.change c.in_ok-made.ensures.in_range c.in_ok-made.ensures.acc c.in_ok-made.ensures.ordered c.in_ok-made.ensures.shown c.in_ok-made.ensures.no_others c.in_ok-made.ensures.elsewhere
    c.in_ok-made.ensures.all_sums c.agg_step.ensures.count
