use Rattle.std.proofs.Common.{refl}
use Rattle.sq_states.proofs.Stepped.{view_steps}
use Rattle.sq_states.proofs.linear.view_step.Goals as goal

pub returns-clause-stepped : goal.returns-clause-stepped
returns-clause-stepped c i v count kept right first =
    view_steps kept first count i v c.args.d.now right _ refl c.in_ok-change.ensures.ok c.in_ok-change.ensures.in_range
