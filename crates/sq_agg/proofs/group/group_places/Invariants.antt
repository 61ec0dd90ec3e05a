use Rattle.sq_algebra.specs.ZSet.{entries}
use Rattle.sq_agg.proofs.Placing.{Placed}
use Rattle.sq_agg.proofs.group.group_places.Given as goal

abbrev pub invariant-loop-i : goal.invariant-loop-i
invariant-loop-i l = Placed l.spec (entries l.z) l.i l.groups
