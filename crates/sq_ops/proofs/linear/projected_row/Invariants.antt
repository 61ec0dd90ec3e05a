use Rattle.sq_ops.proofs.Computing.{Computed}
use Rattle.sq_ops.proofs.linear.projected_row.Given as goal

abbrev pub invariant-loop-expr : goal.invariant-loop-expr
invariant-loop-expr l = Computed l.items l.row l.expr-index l.values.items
