use Rattle.sq_bridge.proofs.SmallPrograms.{checked_blocks_small, checked_relations_few, checked_relations_narrow}
use Rattle.sq_bridge.proofs.view_laws.checked_programs_are_small.Goals as goal

pub returns-clause-blocks : goal.returns-clause-blocks
returns-clause-blocks c = checked_blocks_small

pub returns-clause-columns : goal.returns-clause-columns
returns-clause-columns c = checked_relations_narrow

pub returns-clause-relations : goal.returns-clause-relations
returns-clause-relations c = checked_relations_few
