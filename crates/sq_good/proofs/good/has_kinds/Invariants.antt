use Rattle.std.proofs.Common.{take}
use Rattle.std.specs.List.{AllByRecursion}
use Rattle.sq_algebra.specs.ZSet.{entries}
use Rattle.sq_expr.specs.Kinds.{AreOfKinds}
use Rattle.sq_good.proofs.good.has_kinds.Given as goal

-- the rows so far are of these kinds
abbrev pub invariant-loop-i : goal.invariant-loop-i
invariant-loop-i l = AllByRecursion (λ e. AreOfKinds e.0 l.kinds) (take l.i (entries l.z))
