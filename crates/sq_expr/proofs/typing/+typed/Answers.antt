use Rattle.sq_expr.proofs.Equations.{is_typed_cond-Compare, is_typed_cond-Null, is_typed_cond-Not}
use Rattle.sq_expr.proofs.Typed.{typed_all, typed_any}
use Rattle.sq_expr.proofs.typing.+typed.Goals as goal

pub is_typed-returns-in-Compare : goal.is_typed-returns-in-Compare
is_typed-returns-in-Compare t c = cc (is_typed_cond-Compare c.args.kinds.now c.in-Compare.cmp c.in-Compare.left c.in-Compare.right)

pub is_typed-returns-in-Null : goal.is_typed-returns-in-Null
is_typed-returns-in-Null t c = cc (is_typed_cond-Null c.args.kinds.now c.in-Null.expr c.in-Null.negated)

pub is_typed-returns-in-Not : goal.is_typed-returns-in-Not
is_typed-returns-in-Not t c = cc (is_typed_cond-Not c.args.kinds.now c.in-Not.operand)

pub is_typed-returns-in-All : goal.is_typed-returns-in-All
is_typed-returns-in-All t c = cc (typed_all c.args.kinds.now c.args.cond.now c.in-All.members c.in-All.is)

pub is_typed-returns-in-Any : goal.is_typed-returns-in-Any
is_typed-returns-in-Any t c = cc (typed_any c.args.kinds.now c.args.cond.now c.in-Any.choices c.in-Any.is)
