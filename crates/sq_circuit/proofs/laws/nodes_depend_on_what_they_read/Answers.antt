-- A node by what it reads.
use Rattle.sq_circuit.proofs.Evaluating.{fault_at, sound_at, whole_at}
use Rattle.sq_circuit.proofs.Owning.{reads_earlier}
use Rattle.sq_circuit.proofs.laws.nodes_depend_on_what_they_read.Goals as goal

pub returns-clause-reads : goal.returns-clause-reads
returns-clause-reads a = λ c tables i p earlier at. record {
  value = whole_at c earlier tables i p at;
  fault = fault_at c earlier tables i p at;
  sound = sound_at c earlier tables i p at;
}

pub returns-clause-earlier : goal.returns-clause-earlier
returns-clause-earlier a = λ c circuit. reads_earlier c circuit.parts
