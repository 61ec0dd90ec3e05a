use Rattle.sq_bridge.proofs.Keying.{keys_are_equalities}
use Rattle.sq_bridge.proofs.join_laws.keys_are_equalities.Goals as goal

pub returns : goal.returns
returns c = keys_are_equalities
