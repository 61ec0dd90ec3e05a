use Rattle.std.proofs.Common.{◌+◌, length}
use Rattle.sq_trace.proofs.Merging.{Merging}
use Rattle.sq_trace.proofs.merge.merge.Given as goal

abbrev pub invariant-loop-list : goal.invariant-loop-list
invariant-loop-list g l = Merging g.P.Group.addition g.met.P.Group.laws g.P.Group.first_outside l.fn.left l.fn.right l.left l.right l.list.items

abbrev pub decreases-loop-list : goal.decreases-loop-list
decreases-loop-list g l = length l.left + length l.right
