use Rattle.std.proofs.Common.{refl}
use Rattle.sq_states.proofs.RowSteps.{table_steps}
use Rattle.sq_states.proofs.rows.table_step.Goals as goal

pub returns-clause-stepped : goal.returns-clause-stepped
returns-clause-stepped c t count kept right first =
    table_steps c.args.d.now right first _ c.in_ok-rows.rows refl c.in_ok-rows.ensures c.in_ok-change.ensures.in_range t count kept c.in_ok-change.ensures.ok
