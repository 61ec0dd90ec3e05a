use Rattle.std.proofs.Common.{refl, ap, ◌∙◌}
use Rattle.std.specs.Prelude.{Err}
use Rattle.std.proofs.lemmas.Result.{err_from_is_err_and}
use Rattle.sq_algebra.specs.ZSet.{minus}
use Rattle.sq_circuit.specs.declared.node.Node.TheVariants.{Minus}
use Rattle.sq_states.proofs.Stepped.{minus_piece, minus_steps, no_steps, sum_refused}
use Rattle.sq_states.proofs.linear.minus_step.Goals as goal

pub returns-in_err-change-clause-stepped : goal.returns-in_err-change-clause-stepped
returns-in_err-change-clause-stepped c l r count kept first =
    let (refusal, is, same) = err_from_is_err_and c.from_residual.result c.from_residual.ensures.1 in
    sum_refused (Minus l r) kept c.args.left.now c.args.right.now first count count (minus c.args.left.now c.args.right.now) (minus_piece kept first count l r c.args.left.now c.args.right.now) c.in_err-change.field-0.0
    (λ sum e. c.minus.ensures.outside sum (c.in_err-change.was ∙ ap Err e))
    c.from_residual.result refusal is same (λ b. no_steps count _)

pub returns-clause-stepped : goal.returns-clause-stepped
returns-clause-stepped c l r count kept first =
    minus_steps kept first count l r c.args.left.now c.args.right.now _ refl c.in_ok-change.ensures.ok c.in_ok-change.ensures.in_range
