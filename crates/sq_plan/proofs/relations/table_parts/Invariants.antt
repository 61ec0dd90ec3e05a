use Rattle.sq_plan.proofs.RelationsTables.{TablesSoFar}
use Rattle.sq_plan.proofs.relations.table_parts.Given as goal

-- the nodes of the tables so far
abbrev pub invariant-loop-i : goal.invariant-loop-i
invariant-loop-i l = TablesSoFar l.program.catalog l.i l.parts.items
