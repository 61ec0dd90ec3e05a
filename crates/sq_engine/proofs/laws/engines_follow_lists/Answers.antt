use Rattle.sq_engine.proofs.FromLists.{absent_lists, moved_lists}
use Rattle.sq_engine.proofs.laws.engines_follow_lists.Goals as goal

pub returns-clause-tick : goal.returns-clause-tick
returns-clause-tick c = moved_lists

pub returns-clause-absent : goal.returns-clause-absent
returns-clause-absent c = absent_lists
