-- When a tick is ready.
use Rattle.sq_incr.proofs.Beginning.{starts_ready, stays_ready}
use Rattle.sq_incr.proofs.laws.ticks_are_ready.Goals as goal

pub returns-clause-start : goal.returns-clause-start
returns-clause-start a = starts_ready

pub returns-clause-later : goal.returns-clause-later
returns-clause-later a = stays_ready
