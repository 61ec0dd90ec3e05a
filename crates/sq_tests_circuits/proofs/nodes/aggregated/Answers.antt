-- An Aggregate.
use Rattle.sq_tests_circuits.proofs.Samples.{aggregates}
use Rattle.sq_tests_circuits.proofs.nodes.aggregated.Goals as goal

pub small_circuit-requires : goal.small_circuit-requires
small_circuit-requires c = rw c.in_ok-spec.ensures aggregates
