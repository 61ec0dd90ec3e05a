use Rattle.sq_trace.specs.Inside.{IsMerging}
use Rattle.sq_trace.proofs.merged.merge_newest.Given as goal

abbrev pub invariant-loop-alloc : goal.invariant-loop-alloc
invariant-loop-alloc g l = IsMerging g.P.Group.addition g.P.Group.first_outside l.parts l.change l.stay l.run.items

abbrev pub decreases-loop-alloc : goal.decreases-loop-alloc
decreases-loop-alloc g l = l.stay
