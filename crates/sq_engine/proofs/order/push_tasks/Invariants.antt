use Rattle.std.proofs.Common.{◌≡◌, ◌++◌}
use Rattle.sq_incr.specs.Orders.{tasks_of}
use Rattle.sq_engine.proofs.order.push_tasks.Given as goal

abbrev pub invariant-loop-shard : goal.invariant-loop-shard
invariant-loop-shard l = l.order.items ≡ l.initial.order.items ++ tasks_of l.shard l.node
