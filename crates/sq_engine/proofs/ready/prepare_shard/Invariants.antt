use Rattle.sq_engine.specs.Ticking.{EachAt, IsReadyNode}
use Rattle.sq_engine.proofs.ready.prepare_shard.Given as goal

abbrev pub invariant-loop-node : goal.invariant-loop-node
invariant-loop-node l = EachAt (IsReadyNode l.pieces l.shard l.state) l.ready.items l.node
