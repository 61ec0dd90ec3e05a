use Rattle.std.proofs.Common.{◌∙◌, sym}
use Rattle.sq_incr.specs.Slots.{is_done}
use Rattle.sq_incr.proofs.Judging.{one_more_all}
use Rattle.sq_incr.proofs.judge.first_open.Goals as goal

pub loop-shard-preserved : goal.loop-shard-preserved
loop-shard-preserved c = one_more_all is_done c.args.line.now c.loop-shard.shard c.at.result.now c.at.ensures c.loop-shard.invariant (sym c.is_done.ensures ∙ c.if-not-is_done.false)
