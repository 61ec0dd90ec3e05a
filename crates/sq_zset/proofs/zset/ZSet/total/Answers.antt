use Rattle.std.proofs.Common.{◌<◌, ◌^◌, arith}
use Rattle.sq_zset.proofs.Entries.{total_step, total_shown}
use Rattle.sq_zset.proofs.zset.ZSet.total.Goals as goal

pub loop-entry-preserved : goal.loop-entry-preserved
loop-entry-preserved c =
    let within = rw (← c.deref-entry-items.ensures.value) at c.self.invariant.in_range in
    let small : c.loop-entry.entry-index < 2 ^ 64 = omega arith in
    let step = total_step c.deref-entry-items.result.now c.loop-entry.entry-index c.entry-item.result _ c.from-sum.result within c.loop-entry-test.true small c.entry-item.is c.loop-entry.invariant.told c.loop-entry.invariant.bound c.from-sum.ensures in
    record { told = step.0; bound = step.1 }

pub returns : goal.returns
returns c =
    total_shown c.self.inside.entries.items c.deref-entry-items.result.now c.args.self.now c.loop-entry.entry-index _ c.self.invariant c.self.view_is c.deref-entry-items.ensures.value c.loop-entry-test.false c.loop-entry.invariant.told
