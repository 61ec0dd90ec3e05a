use Rattle.std.proofs.Common.{option_copied}
use Rattle.sq_trace.proofs.Cuts.{cut_on, cut_back}
use Rattle.sq_trace.proofs.next.cut.Goals as goal

pub loop-low-preserved-then-is_low : goal.loop-low-preserved-then-is_low
loop-low-preserved-then-is_low g c =
    let next = cut_on g.P.Group.addition g.P.Group.first_outside c.args.side c.args.key.now (option_copied c.args.last) c.args.entries.now c.loop-low.low c.loop-low.high c.index-entries-middle.result c.is_low.result c.requires c.loop-low-test.true c.loop-low.invariant.1 c.index-entries-middle.is c.is_low.ensures c.if-is_low.true in
    (next.0, c.loop-low.invariant.1, next.1, c.loop-low.invariant.3)

pub loop-low-preserved : goal.loop-low-preserved
loop-low-preserved g c =
    let next = cut_back g.P.Group.addition g.P.Group.first_outside c.args.side c.args.key.now (option_copied c.args.last) c.args.entries.now c.loop-low.low c.loop-low.high c.index-entries-middle.result c.is_low.result c.requires c.loop-low-test.true c.loop-low.invariant.1 c.index-entries-middle.is c.is_low.ensures c.if-is_low.false in
    (next.0, next.1, c.loop-low.invariant.2, next.2)
