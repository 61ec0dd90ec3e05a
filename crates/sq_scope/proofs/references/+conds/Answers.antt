use Rattle.std.proofs.Common.{take}
use Rattle.sq_scope.specs.NamesReferences.{is_at_fault}
use Rattle.sq_scope.proofs.NamesReferences.{any-Any, any-All, any-Not, any-Null, any_left, any_right}
use Rattle.sq_scope.proofs.references.+conds.Goals as goal

pub any_in_cond-returns-in-Any : goal.any_in_cond-returns-in-Any
any_in_cond-returns-in-Any t c = cc (any-Any (is_at_fault c.args.fault (take c.args.sources c.args.scope.now)) c.in-Any.choices)

pub any_in_cond-returns-in-All : goal.any_in_cond-returns-in-All
any_in_cond-returns-in-All t c = cc (any-All (is_at_fault c.args.fault (take c.args.sources c.args.scope.now)) c.in-All.members)

pub any_in_cond-returns-in-Not : goal.any_in_cond-returns-in-Not
any_in_cond-returns-in-Not t c = cc (any-Not (is_at_fault c.args.fault (take c.args.sources c.args.scope.now)) c.in-Not.operand)

pub any_in_cond-returns-then-any_in_expr : goal.any_in_cond-returns-then-any_in_expr
any_in_cond-returns-then-any_in_expr t c = any_left (is_at_fault c.args.fault (take c.args.sources c.args.scope.now)) c.args.cond.now c.in-Compare.cmp c.in-Compare.left c.in-Compare.right c.any_in_expr.result c.in-Compare.is c.any_in_expr.ensures c.if-any_in_expr.true

pub any_in_cond-returns-else-any_in_expr : goal.any_in_cond-returns-else-any_in_expr
any_in_cond-returns-else-any_in_expr t c = any_right (is_at_fault c.args.fault (take c.args.sources c.args.scope.now)) c.args.cond.now c.in-Compare.cmp c.in-Compare.left c.in-Compare.right c.any_in_expr.result c.any_in_expr-else-any_in_expr.result c.in-Compare.is c.any_in_expr.ensures c.if-any_in_expr.false c.any_in_expr-else-any_in_expr.ensures

pub any_in_cond-returns-in-Null : goal.any_in_cond-returns-in-Null
any_in_cond-returns-in-Null t c = cc (any-Null (is_at_fault c.args.fault (take c.args.sources c.args.scope.now)) c.in-Null.expr c.in-Null.negated)
