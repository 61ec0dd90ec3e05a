use Rattle.std.proofs.Common.{◌≡◌, replicate}
use Rattle.sq_states.specs.Empty.{empty_states}
use Rattle.sq_tests_ticks.proofs.ticks.states_of.Given as goal

abbrev pub invariant-loop : goal.invariant-loop
invariant-loop l = l.states.items ≡ replicate l.counter (empty_states l.circuit)
