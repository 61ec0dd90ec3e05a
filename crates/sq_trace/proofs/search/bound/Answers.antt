use Rattle.sq_trace.proofs.Searching.{search_on}
use Rattle.sq_trace.proofs.search.bound.Goals as goal

pub loop-low-preserved-in-Less : goal.loop-low-preserved-in-Less
loop-low-preserved-in-Less g c =
    let next = search_on g.P.Group.addition g.P.Group.first_outside (c.args.key.now, c.args.row.now) c.args.entries.now c.loop-low.low c.loop-low.high c.index-entries-middle.result c.compare_place.result c.requires c.loop-low-test.true c.loop-low.invariant.1 c.index-entries-middle.is c.compare_place.ensures c.in-Less.is in
    (next.0, c.loop-low.invariant.1, next.1, c.loop-low.invariant.3)
