-- Circuits in the making.
use Rattle.sq_circuit.proofs.Making.{begun_earlier, begun_later, grown, tables_begin}
use Rattle.sq_circuit.proofs.laws.circuits_are_made_node_by_node.Goals as goal

pub returns-clause-begun : goal.returns-clause-begun
returns-clause-begun a = tables_begin

pub returns-clause-grown : goal.returns-clause-grown
returns-clause-grown a = grown

pub returns-clause-later : goal.returns-clause-later
returns-clause-later a = begun_later

pub returns-clause-earlier : goal.returns-clause-earlier
returns-clause-earlier a = begun_earlier
