use Rattle.sq_plan.proofs.RelationsEnd.{ViewsSoFar}
use Rattle.sq_plan.proofs.planned.with_views.Given as goal

-- the views so far
abbrev pub invariant-loop-view : goal.invariant-loop-view
invariant-loop-view l = ViewsSoFar l.fn.parts.items l.shown l.view l.parts.items
