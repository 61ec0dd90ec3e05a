use Rattle.std.proofs.Common.{refl}
use Rattle.sq_states.proofs.RowSteps.{distinct_steps}
use Rattle.sq_states.proofs.rows.distinct_node.Goals as goal

pub returns-clause-stepped : goal.returns-clause-stepped
returns-clause-stepped g c i right first =
    distinct_steps c.args.d.now right first _ c.in_ok-rows.rows refl c.in_ok-rows.ensures c.in_ok-change.ensures.in_range i c.args.steps.now.count _ c.args.old.now c.in_ok-change.ensures.ok c.distinct_step.ensures.count
