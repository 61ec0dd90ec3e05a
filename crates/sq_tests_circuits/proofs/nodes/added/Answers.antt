-- A Plus.
use Rattle.sq_tests_circuits.proofs.Samples.{sums}
use Rattle.sq_tests_circuits.proofs.nodes.added.Goals as goal

pub small_circuit-requires : goal.small_circuit-requires
small_circuit-requires c = sums
