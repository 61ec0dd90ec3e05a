use Rattle.sq_bridge.proofs.Parts.{front_part, unpaired_is, unpaired_part}
use Rattle.sq_bridge.proofs.part_laws.rows_without_a_pair_are_a_part.Goals as goal

pub returns-clause-rows : goal.returns-clause-rows
returns-clause-rows c = unpaired_is

pub returns-clause-part : goal.returns-clause-part
returns-clause-part c = unpaired_part

pub returns-clause-front : goal.returns-clause-front
returns-clause-front c = front_part
