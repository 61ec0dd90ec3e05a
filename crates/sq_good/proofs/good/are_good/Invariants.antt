use Rattle.std.proofs.Common.{ℕ, ◌<◌}
use Rattle.sq_good.specs.Tables.{FitsNode}
use Rattle.sq_good.proofs.good.are_good.Given as goal

-- the nodes so far fit
abbrev pub invariant-loop-i : goal.invariant-loop-i
invariant-loop-i l = (j : ℕ) → j < l.i → FitsNode l.circuit l.tables j
