-- Each kind of node has its laws.
use Rattle.sq_circuit.proofs.Lawful.{lawful}
use Rattle.sq_circuit.proofs.laws.every_node_is_lawful.Goals as goal

pub returns : goal.returns
returns c = lawful
