use Rattle.std.proofs.Common.{◌+◌, ap}
use Rattle.sq_sample.proofs.Counting.{at_next, at_start}
use Rattle.sq_sample.proofs.ticks.insert_into_e.Goals as goal

pub loop-i-init : goal.loop-i-init
loop-i-init c = at_start c.args.seed c.args.updates.now.items c.new-at.result.state c.new-at.result.number c.new-at.ensures.state c.new-at.ensures.number

pub loop-i-preserved : goal.loop-i-preserved
loop-i-preserved c =
    at_next c.args.seed c.args.updates.now.items c.loop-i.updates.items _ c.loop-i.at.state c.loop-i.at.number c.loop-i.i _ _ _ _ c.loop-i.invariant
    (ap (λ n. n + 1011) c.from.ensures) c.in_ok-row.ensures c.in_ok-push_update.ensures c.advanced-at.ensures.state c.advanced-at.ensures.number
