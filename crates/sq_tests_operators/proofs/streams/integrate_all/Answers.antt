use Rattle.std.proofs.Common.{◌∙◌, ◌++◌, ap, sym}
use Rattle.std.proofs.lemmas.List.{drop_all, append-nil}
use Rattle.sq_algebra.specs.Groups.{z_sets}
use Rattle.sq_stream.specs.Steps.{run, integrator_step}
use Rattle.sq_stream.proofs.Rows.{integral_is}
use Rattle.sq_value.specs.Order.{row_cmp}
use Rattle.sq_tests_operators.proofs.streams.integrate_all.Goals as goal

pub returns : goal.returns
returns c =
    sym (append-nil c.loop-change.answers.items)
    ∙ ap (λ t. c.loop-change.answers.items ++ run (integrator_step (z_sets row_cmp)) c.loop-change.integrator t) (sym (drop_all c.loop-change.change-index c.args.changes.now c.loop-change-test.false))
    ∙ c.loop-change.invariant
    ∙ integral_is c.args.changes.now
