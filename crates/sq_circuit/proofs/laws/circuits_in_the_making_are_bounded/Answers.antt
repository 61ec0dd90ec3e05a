-- Rows of sound nodes in circuits in the making.
use Rattle.sq_circuit.proofs.Making.{begun_kinds, begun_list}
use Rattle.sq_circuit.proofs.laws.circuits_in_the_making_are_bounded.Goals as goal

pub returns-clause-kinds : goal.returns-clause-kinds
returns-clause-kinds a = begun_kinds

pub returns-clause-list : goal.returns-clause-list
returns-clause-list a = begun_list
