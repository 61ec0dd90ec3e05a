-- The parts are those of the circuit.
use Rattle.sq_tests_engine.proofs.Parts.{totals_circuit}
use Rattle.sq_tests_engine.proofs.circuit.totals_of_numbers.Goals as goal

pub of-requires : goal.of-requires
of-requires c = rw (c.in_ok-push_view.ensures, c.in_ok-push_totals.ensures, c.in_ok-push_table.ensures, c.new-parts.ensures.items) totals_circuit
