use Rattle.sq_engine.specs.Ticking.{EachAt, IsReadyShard}
use Rattle.sq_engine.proofs.ready.prepare_all.Given as goal

abbrev pub invariant-loop-shard : goal.invariant-loop-shard
invariant-loop-shard l = EachAt (IsReadyShard l.pieces l.states) l.ready.items l.shard
