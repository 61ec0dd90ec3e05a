-- A Pad.
use Rattle.sq_tests_circuits.proofs.Samples.{pads}
use Rattle.sq_tests_circuits.proofs.nodes.padded.Goals as goal

pub small_circuit-requires : goal.small_circuit-requires
small_circuit-requires c = pads
