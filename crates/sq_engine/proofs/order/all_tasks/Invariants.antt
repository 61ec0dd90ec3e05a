use Rattle.std.proofs.Common.{◌≡◌}
use Rattle.sq_engine.specs.Ticking.{all_of}
use Rattle.sq_engine.proofs.order.all_tasks.Given as goal

abbrev pub invariant-loop-node : goal.invariant-loop-node
invariant-loop-node l = l.order.items ≡ all_of l.node l.shards
