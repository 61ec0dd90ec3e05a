-- A Minus.
use Rattle.sq_tests_circuits.proofs.Samples.{differences}
use Rattle.sq_tests_circuits.proofs.nodes.subtracted.Goals as goal

pub small_circuit-requires : goal.small_circuit-requires
small_circuit-requires c = differences
