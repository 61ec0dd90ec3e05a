use Rattle.std.proofs.Common.{◌≤◌, length}
use Rattle.sq_plan.specs.ProgramWalk.{Walks}
use Rattle.sq_plan.proofs.relations.walk.Given as goal

-- the relations that have nodes
abbrev pub invariant-loop-i : goal.invariant-loop-i
invariant-loop-i l = Walks l.program l.i l.walked × (l.i ≤ length l.program.catalog)
