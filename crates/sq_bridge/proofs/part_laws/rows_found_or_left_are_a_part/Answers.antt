use Rattle.sq_bridge.proofs.Parts.{found_part, rest_part}
use Rattle.sq_bridge.proofs.part_laws.rows_found_or_left_are_a_part.Goals as goal

pub returns-clause-found : goal.returns-clause-found
returns-clause-found c = found_part

pub returns-clause-left : goal.returns-clause-left
returns-clause-left c = rest_part
