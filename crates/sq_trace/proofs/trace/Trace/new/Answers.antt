use Rattle.sq_trace.proofs.Commits.{fronts_of_none}
use Rattle.sq_trace.proofs.trace.Trace.new.Goals as goal

pub invariant_of-result : goal.invariant_of-result
invariant_of-result g c = fronts_of_none g.P.Group.addition g.P.Group.first_outside c.new.result.items c.new.ensures.items g.met.P.Group.zero_in_range
