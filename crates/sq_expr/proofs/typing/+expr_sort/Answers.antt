use Rattle.std.proofs.Common.{rules}
use Rattle.sq_expr.proofs.Equations.{sort_of-Column, sort_of-Number, sort_of-Text, sort_of-Neg}
use Rattle.sq_expr.proofs.Typed.{sorted_sum, sorted_product}
use Rattle.sq_expr.proofs.typing.+expr_sort.Goals as goal

pub returns-in-Column : goal.returns-in-Column
returns-in-Column t c = cc (sort_of-Column c.args.kinds.now c.in-Column.at)

pub returns-in-Number : goal.returns-in-Number
returns-in-Number t c = cc (sort_of-Number c.args.kinds.now c.in-Number.field-0)

pub returns-in-Text : goal.returns-in-Text
returns-in-Text t c = cc (sort_of-Text c.args.kinds.now c.in-Text.field-0)

pub returns-in-Neg : goal.returns-in-Neg
returns-in-Neg t c = cc (sort_of-Neg c.args.kinds.now c.in-Neg.operand)

pub returns-after-loop-term : goal.returns-after-loop-term
returns-after-loop-term t c = sorted_sum c.args.kinds.now c.args.expr.now c.in-Sum.terms c.as_slice-term-items.result.now c.loop-term.term-index c.loop-term.numbers c.arithmetic_sort-in-Sum.result c.in-Sum.is c.as_slice-term-items.ensures (search rules) c.loop-term.invariant c.arithmetic_sort-in-Sum.ensures

pub returns-after-loop-factor : goal.returns-after-loop-factor
returns-after-loop-factor t c = sorted_product c.args.kinds.now c.args.expr.now c.in-Product.factors c.as_slice-factor-items.result.now c.loop-factor.factor-index c.loop-factor.numbers c.arithmetic_sort-in-Product.result c.in-Product.is c.as_slice-factor-items.ensures (search rules) c.loop-factor.invariant c.arithmetic_sort-in-Product.ensures
