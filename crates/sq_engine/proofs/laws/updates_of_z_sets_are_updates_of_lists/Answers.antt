use Rattle.sq_engine.proofs.FromLists.{made_lists}
use Rattle.sq_engine.proofs.laws.updates_of_z_sets_are_updates_of_lists.Goals as goal

pub returns : goal.returns
returns c = made_lists
