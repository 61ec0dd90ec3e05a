use Rattle.sq_bridge.proofs.Beginning.{checked_begins}
use Rattle.sq_bridge.proofs.view_laws.checked_programs_begin_with_commas.Goals as goal

pub returns : goal.returns
returns c = checked_begins
