use Rattle.std.proofs.Common.{refl, ap, ◌∙◌}
use Rattle.std.specs.Prelude.{Err}
use Rattle.std.proofs.lemmas.Result.{err_from_is_err_and}
use Rattle.sq_states.proofs.Stepped.{linear_refused, linear_steps}
use Rattle.sq_states.proofs.linear.linear_step.Goals as goal

pub returns-in_err-change-clause-stepped : goal.returns-in_err-change-clause-stepped
returns-in_err-change-clause-stepped c i count kept right first =
    let (refusal, is, same) = err_from_is_err_and c.from_residual.result c.from_residual.ensures.1 in
    linear_refused kept first count i c.args.op.now c.args.d.now right c.in_err-change.field-0.0
    (λ value e. c.apply_linear.ensures.value value (c.in_err-change.was ∙ ap Err e))
    (λ sum e. c.apply_linear.ensures.weight sum (c.in_err-change.was ∙ ap Err e))
    c.from_residual.result refusal is same

pub returns-clause-stepped : goal.returns-clause-stepped
returns-clause-stepped c i count kept right first =
    linear_steps kept first count i c.args.op.now c.args.d.now right _ refl c.in_ok-change.ensures.ok c.in_ok-change.ensures.in_range c.in_ok-change.ensures.all_values
