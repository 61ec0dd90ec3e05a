use Rattle.sq_bridge.proofs.Parts.{both_part, except_part}
use Rattle.sq_bridge.proofs.part_laws.set_operations_give_a_part.Goals as goal

pub returns-clause-intersection : goal.returns-clause-intersection
returns-clause-intersection c = both_part

pub returns-clause-difference : goal.returns-clause-difference
returns-clause-difference c = except_part
