-- Parts whose sound nodes are lists.
use Rattle.sq_circuit.proofs.Listing.{listed_circuit}
use Rattle.sq_circuit.proofs.laws.listed_parts_are_a_circuit.Goals as goal

pub returns : goal.returns
returns c = listed_circuit
