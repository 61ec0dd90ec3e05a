use Rattle.sq_incr.specs.Slots.{change_in}
use Rattle.sq_incr.proofs.Noting.{at_all_places, one_more_mapped}
use Rattle.sq_incr.specs.Slots.{is_run}
use Rattle.sq_incr.proofs.inputs.copies.Goals as goal

pub copy_left-requires : goal.copy_left-requires
copy_left-requires c = at_all_places is_run c.args.line.now c.requires.run c.loop-shard.shard c.at.result.now c.at.ensures

pub loop-shard-preserved : goal.loop-shard-preserved
loop-shard-preserved c =
    one_more_mapped change_in c.args.line.now c.loop-shard.shard c.at.result.now _ c.loop-shard.zs.items c.push.new.self.items c.at.ensures c.in_ok-copy_left.ensures c.loop-shard.invariant c.in_ok-push.ensures.items
