use Rattle.sq_trace.proofs.RowLemmas.{rows_in_range, rows_go_on}
use Rattle.sq_trace.proofs.rows.rows_at.Goals as goal

pub add_run-requires-clause-in_range : goal.add_run-requires-clause-in_range
add_run-requires-clause-in_range g c =
    rows_in_range g.P.Group.addition g.met.P.Group.laws g.P.Group.first_outside c.args.key.now c.args.parts.now c.loop-part.rows.items c.part-item.result c.entries.result.now c.range_of.result.now c.loop-part.part-index
    c.requires c.loop-part.invariant c.loop-part-test.true c.part-item.is c.entries.ensures.entries c.range_of.ensures

pub loop-part-preserved : goal.loop-part-preserved
loop-part-preserved g c =
    rows_go_on g.P.Group.addition g.met.P.Group.laws g.P.Group.first_outside c.args.key.now c.args.parts.now c.loop-part.rows.items c.part-item.result c.entries.result.now c.range_of.result.now c.in_ok-rows.rows.items c.loop-part.part-index
    c.loop-part.invariant c.loop-part-test.true c.part-item.is c.entries.ensures.entries c.range_of.ensures c.in_ok-rows.ensures
