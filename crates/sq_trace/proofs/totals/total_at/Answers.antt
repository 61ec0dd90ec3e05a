use Rattle.std.proofs.Common.{◌∙◌, sym, ap, ap₂}
use Rattle.sq_trace.specs.Runs.{at}
use Rattle.sq_trace.proofs.Ranges.{content_next, next_in_range}
use Rattle.sq_trace.proofs.totals.total_at.Goals as goal

pub add_found-requires-clause-sum_in_range : goal.add_found-requires-clause-sum_in_range
add_found-requires-clause-sum_in_range g c =
    next_in_range g.P.Group.addition g.met.P.Group.laws g.P.Group.first_outside (c.args.key.now, c.args.row.now) c.args.parts.now c.loop-part.part-index c.part-item.result c.entries.result.now c.loop-part.sum c.requires c.loop-part-test.true c.part-item.is c.entries.ensures.entries c.loop-part.invariant

pub loop-part-preserved : goal.loop-part-preserved
loop-part-preserved g c =
    c.in_ok-sum.ensures.ok ∙ ap₂ g.P.Group.addition.plus c.loop-part.invariant (ap (at g.P.Group.addition (c.args.key.now, c.args.row.now)) c.entries.ensures.entries)
    ∙ sym (content_next g.P.Group.addition g.met.P.Group.laws (c.args.key.now, c.args.row.now) c.args.parts.now c.loop-part.part-index c.part-item.result c.loop-part-test.true c.part-item.is)
