use Rattle.sq_engine.specs.Ticking.{IsReadyShard}
use Rattle.sq_engine.proofs.Putting.{more_each}
use Rattle.sq_engine.proofs.ready.prepare_all.Goals as goal

pub loop-shard-preserved : goal.loop-shard-preserved
loop-shard-preserved c =
    more_each (IsReadyShard c.args.pieces.now c.args.states.now) c.loop-shard.ready.items c.push.new.self.items c.loop-shard.shard _ c.loop-shard.invariant c.in_ok-prepare_shard.ensures c.in_ok-push.ensures.items
