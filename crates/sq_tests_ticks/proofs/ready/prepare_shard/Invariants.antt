use Rattle.sq_tests_ticks.specs.Ticks.{EachAt, IsReadyNode}
use Rattle.sq_tests_ticks.proofs.ready.prepare_shard.Given as goal

abbrev pub invariant-loop-node : goal.invariant-loop-node
invariant-loop-node l = EachAt (IsReadyNode l.pieces l.shard l.state) l.ready.items l.node
