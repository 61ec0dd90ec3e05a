use Rattle.std.proofs.Common.{option_copied}
use Rattle.sq_trace.proofs.Nexts.{next_goes_on}
use Rattle.sq_trace.proofs.next.next_of.Goals as goal

pub loop-part-preserved : goal.loop-part-preserved
loop-part-preserved g c =
    next_goes_on g.P.Group.addition g.met.P.Group.laws c.args.side c.args.key.now (option_copied c.args.last) c.args.parts.now c.loop-part.part-index c.part-item.result c.entries.result.now (option_copied c.loop-part.best) (option_copied c.next_in.result) (option_copied c.nearer-best.result)
    c.loop-part-test.true c.part-item.is c.entries.ensures.entries c.loop-part.invariant c.next_in.ensures c.nearer-best.ensures
