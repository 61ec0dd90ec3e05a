use Rattle.sq_check.proofs.QueriesTypedLemmas.{JoinsSoFar}
use Rattle.sq_check.proofs.typed.typed_joins.Given as goal

abbrev pub invariant-loop-i : goal.invariant-loop-i
invariant-loop-i l = JoinsSoFar l.scope l.joined-items l.fn.origins l.i l.items l.origins
