use Rattle.std.proofs.Common.{vec_len}
use Rattle.sq_engine.specs.Ticking.{IsPut}
use Rattle.sq_engine.proofs.Putting.{Going}
use Rattle.sq_engine.proofs.ready.commit_shard.Given as goal

abbrev pub invariant-loop-node : goal.invariant-loop-node
invariant-loop-node l = Going IsPut l.initial.states l.initial.nodes.items l.nodes.items l.states

abbrev pub decreases-loop-node : goal.decreases-loop-node
decreases-loop-node l = vec_len l.nodes
