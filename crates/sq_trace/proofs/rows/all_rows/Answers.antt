use Rattle.sq_trace.proofs.RowLemmas.{all_in_range, all_goes_on}
use Rattle.sq_trace.proofs.rows.all_rows.Goals as goal

pub add_run-requires-clause-in_range : goal.add_run-requires-clause-in_range
add_run-requires-clause-in_range g c =
    all_in_range g.P.Group.addition g.met.P.Group.laws g.P.Group.first_outside c.args.parts.now c.loop-part.rows.items c.part-item.result c.entries.result.now c.loop-part.part-index
    c.requires c.loop-part.invariant c.loop-part-test.true c.part-item.is c.entries.ensures.entries

pub loop-part-preserved : goal.loop-part-preserved
loop-part-preserved g c =
    all_goes_on g.P.Group.addition g.met.P.Group.laws g.P.Group.first_outside c.args.parts.now c.loop-part.rows.items c.part-item.result c.entries.result.now c.in_ok-rows.rows.items c.loop-part.part-index
    c.loop-part.invariant c.loop-part-test.true c.part-item.is c.entries.ensures.entries c.in_ok-rows.ensures
