use Rattle.std.proofs.Common.{take}
use Rattle.std.specs.List.{AllByRecursion}
use Rattle.sq_expr.specs.Bounds.{IsBoundedCond}
use Rattle.sq_expr.proofs.typing.+bounded.Given as goal

-- the conditions so far have bounds
abbrev pub invariant-are_bounded-loop-cond : goal.invariant-are_bounded-loop-cond
invariant-are_bounded-loop-cond l = AllByRecursion (IsBoundedCond l.kinds) (take l.cond-index l.cond-items)
