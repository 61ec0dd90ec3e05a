-- More nodes behind.
use Rattle.sq_circuit.proofs.Growing.{fault_more, sound_more, whole_more}
use Rattle.sq_circuit.proofs.laws.growth_leaves_nodes.Goals as goal

pub returns-clause-value : goal.returns-clause-value
returns-clause-value a = whole_more

pub returns-clause-fault : goal.returns-clause-fault
returns-clause-fault a = fault_more

pub returns-clause-sound : goal.returns-clause-sound
returns-clause-sound a = sound_more
