use Rattle.std.proofs.Common.{◌≡◌, map, take}
use Rattle.sq_typed.specs.Numbered.{kind_of}
use Rattle.sq_plan.proofs.columns.kinds_of.Given as goal

abbrev pub invariant-loop-expr : goal.invariant-loop-expr
invariant-loop-expr l = l.own ≡ map (kind_of l.kinds) (take l.expr-index l.exprs)
