-- A Join.
use Rattle.sq_tests_circuits.proofs.Samples.{joins}
use Rattle.sq_tests_circuits.proofs.nodes.join_circuit.Goals as goal

pub small_circuit-requires : goal.small_circuit-requires
small_circuit-requires c = rw c.in_ok-op.ensures joins
