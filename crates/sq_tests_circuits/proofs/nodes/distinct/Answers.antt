-- A Distinct.
use Rattle.sq_tests_circuits.proofs.Samples.{distincts}
use Rattle.sq_tests_circuits.proofs.nodes.distinct.Goals as goal

pub small_circuit-requires : goal.small_circuit-requires
small_circuit-requires c = distincts
