use Rattle.sq_circuit.specs.Begun.{IsBegun}
use Rattle.sq_tests_ticks.proofs.generated.add_nodes.Given as goal

abbrev pub invariant-loop : goal.invariant-loop
invariant-loop l = IsBegun 3 l.view l.parts.items
