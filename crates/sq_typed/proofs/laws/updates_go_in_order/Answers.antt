use Rattle.sq_typed.proofs.UpdateLemmas.{first_absent_is}
use Rattle.sq_typed.proofs.laws.updates_go_in_order.Goals as goal

pub returns-clause-absent : goal.returns-clause-absent
returns-clause-absent c = first_absent_is
