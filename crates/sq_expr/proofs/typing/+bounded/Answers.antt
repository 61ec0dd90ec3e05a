use Rattle.sq_expr.proofs.Typed.{bounded_compare, bounded_null, bounded_not, bounded_all, bounded_any, same_answer, first_answer, second_answer}
use Rattle.sq_expr.proofs.typing.+bounded.Goals as goal

pub is_bounded-returns-then-has_bound : goal.is_bounded-returns-then-has_bound
is_bounded-returns-then-has_bound t c = second_answer c.has_bound.result c.has_bound-then-has_bound.result (bounded_compare c.args.kinds.now c.args.cond.now c.in-Compare.cmp c.in-Compare.left c.in-Compare.right c.in-Compare.is) c.has_bound.ensures c.has_bound-then-has_bound.ensures c.if-has_bound.true

pub is_bounded-returns-else-has_bound : goal.is_bounded-returns-else-has_bound
is_bounded-returns-else-has_bound t c = first_answer c.has_bound.result (bounded_compare c.args.kinds.now c.args.cond.now c.in-Compare.cmp c.in-Compare.left c.in-Compare.right c.in-Compare.is) c.has_bound.ensures c.if-has_bound.false

pub is_bounded-returns-in-Null : goal.is_bounded-returns-in-Null
is_bounded-returns-in-Null t c = same_answer c.has_bound-in-Null.result (bounded_null c.args.kinds.now c.args.cond.now c.in-Null.expr c.in-Null.negated c.in-Null.is) c.has_bound-in-Null.ensures

pub is_bounded-returns-in-Not : goal.is_bounded-returns-in-Not
is_bounded-returns-in-Not t c = same_answer c.is_bounded.result (bounded_not c.args.kinds.now c.args.cond.now c.in-Not.operand c.get.result.now c.in-Not.is c.get.ensures) c.is_bounded.ensures

pub is_bounded-returns-in-All : goal.is_bounded-returns-in-All
is_bounded-returns-in-All t c = same_answer c.are_bounded.result (bounded_all c.args.kinds.now c.args.cond.now c.in-All.members c.in-All.is) c.are_bounded.ensures

pub is_bounded-returns-in-Any : goal.is_bounded-returns-in-Any
is_bounded-returns-in-Any t c = same_answer c.are_bounded-in-Any.result (bounded_any c.args.kinds.now c.args.cond.now c.in-Any.choices c.in-Any.is) c.are_bounded-in-Any.ensures
