use Rattle.sq_engine.proofs.Totalling.{IsFront}
use Rattle.sq_engine.proofs.totals.total_after.Given as goal

abbrev pub invariant-loop-shard : goal.invariant-loop-shard
invariant-loop-shard l = IsFront l.totals l.pieces l.node l.shard l.sum
