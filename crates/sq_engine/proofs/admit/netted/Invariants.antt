use Rattle.std.proofs.Common.{◌≡◌}
use Rattle.sq_circuit.specs.Along.{each_below}
use Rattle.sq_engine.specs.Admitting.{net}
use Rattle.sq_engine.proofs.admit.netted.Given as goal

abbrev pub invariant-loop-t : goal.invariant-loop-t
invariant-loop-t l = l.changes.items ≡ each_below (λ t. net t l.updates) l.t
