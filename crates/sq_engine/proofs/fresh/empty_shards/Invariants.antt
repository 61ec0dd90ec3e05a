use Rattle.std.proofs.Common.{◌≡◌, replicate}
use Rattle.sq_states.specs.Empty.{empty_states}
use Rattle.sq_engine.proofs.fresh.empty_shards.Given as goal

abbrev pub invariant-loop : goal.invariant-loop
invariant-loop l = l.states.items ≡ replicate l.counter (empty_states l.circuit)
