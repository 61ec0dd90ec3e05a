use Rattle.std.proofs.Common.{vec_len}
use Rattle.sq_engine.specs.Ticking.{ArePut}
use Rattle.sq_engine.proofs.Putting.{Going}
use Rattle.sq_engine.proofs.ready.commit_all.Given as goal

abbrev pub invariant-loop-shard : goal.invariant-loop-shard
invariant-loop-shard l = Going ArePut l.initial.states.items l.initial.ready.items l.ready.items l.states.items

abbrev pub decreases-loop-shard : goal.decreases-loop-shard
decreases-loop-shard l = vec_len l.ready
