use Rattle.std.proofs.Common.{◌≡◌, ◌++◌, map, take}
use Rattle.sq_bridge.specs.Groups.{argument_items}
use Rattle.sq_expr.specs.declared.expr.Expr.TheVariants as expr
use Rattle.sq_plan.proofs.groups.group_items.Given as goal

abbrev pub invariant-loop-column : goal.invariant-loop-column
invariant-loop-column l = l.items ≡ map expr.Column (take l.column-index l.column-items)

abbrev pub invariant-loop-call : goal.invariant-loop-call
invariant-loop-call l = l.items ≡ map expr.Column l.grouping.columns ++ argument_items (take l.call-index l.call-items)
