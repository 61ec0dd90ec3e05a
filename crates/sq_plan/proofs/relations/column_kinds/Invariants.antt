use Rattle.std.proofs.Common.{◌≡◌, map, take}
use Rattle.sq_plan.proofs.relations.column_kinds.Given as goal

-- the kinds of the columns so far
abbrev pub invariant-loop-column : goal.invariant-loop-column
invariant-loop-column l = l.kinds.items ≡ map (λ c. c.kind) (take l.column-index l.column-items)
