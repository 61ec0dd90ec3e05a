use Rattle.std.proofs.Common.{rules, max, ◌∙◌, ap, subst}
use Rattle.sq_expr.specs.Bounds.{IsBounded, bound_of}
use Rattle.sq_expr.proofs.Limits.{answered, no_answer, Measures, leaf_column, leaf_number, leaf_text, measured_neg, measured_sum, measured_product, sum_more, product_more, none_in_neg, none_in_sum, none_in_product}
use Rattle.sq_expr.proofs.limit.+bound.Goals as goal
use Rattle.sq_expr.proofs.limit.+bound.Goals.{in-Column, in-Number, in-Text, in-Neg+in_ok-bound-in-Neg, in-Sum+else-loop-term-test, in-Product+else-loop-factor-test}

pub loop-term-preserved : goal.loop-term-preserved
loop-term-preserved t c = rw c.saturating_add-sum.ensures (sum_more c.args.kinds.now c.as_slice-term-items.result.now c.loop-term.term-index c.loop-term.sum c.in_ok-bound-in-Sum.field-0 c.term-item.result (search rules) c.term-item.is c.loop-term.invariant c.in_ok-bound-in-Sum.ensures.0 c.in_ok-bound-in-Sum.ensures.1)

pub loop-factor-preserved : goal.loop-factor-preserved
loop-factor-preserved t c = rw c.saturating_mul-product.ensures (product_more c.args.kinds.now c.as_slice-factor-items.result.now c.loop-factor.factor-index c.loop-factor.product c.in_ok-bound-in-Product.field-0 c.factor-item.result (search rules) c.factor-item.is c.loop-factor.invariant c.in_ok-bound-in-Product.ensures.0 c.in_ok-bound-in-Product.ensures.1)

pub returns-in_err-bound-in-Neg : goal.returns-in_err-bound-in-Neg
returns-in_err-bound-in-Neg t c = no_answer c.args.kinds.now c.args.expr.now c.from_residual.result c.from_residual.ensures (none_in_neg c.args.kinds.now c.args.expr.now c.in-Neg.operand c.get.result.now c.in-Neg.is c.get.ensures c.in_err-bound-in-Neg.ensures)

pub returns-in_err-bound-in-Sum : goal.returns-in_err-bound-in-Sum
returns-in_err-bound-in-Sum t c = no_answer c.args.kinds.now c.args.expr.now c.from_residual-in_err-bound-in-Sum.result c.from_residual-in_err-bound-in-Sum.ensures (none_in_sum c.args.kinds.now c.args.expr.now c.in-Sum.terms c.as_slice-term-items.result.now c.loop-term.term-index c.term-item.result c.in-Sum.is c.as_slice-term-items.ensures (search rules) c.term-item.is c.in_err-bound-in-Sum.ensures)

pub returns-in_err-bound-in-Product : goal.returns-in_err-bound-in-Product
returns-in_err-bound-in-Product t c = no_answer c.args.kinds.now c.args.expr.now c.from_residual-in_err-bound-in-Product.result c.from_residual-in_err-bound-in-Product.ensures (none_in_product c.args.kinds.now c.args.expr.now c.in-Product.factors c.as_slice-factor-items.result.now c.loop-factor.factor-index c.factor-item.result c.in-Product.is c.as_slice-factor-items.ensures (search rules) c.factor-item.is c.in_err-bound-in-Product.ensures)

pub returns : goal.returns
returns t c =
    let measured : Measures c.args.kinds.now c.args.expr.now c.match-expr.within_limit = elim c.match-expr.branch [
      | in-Column w ↦ rw w.within_limit-is (leaf_column c.args.kinds.now c.args.expr.now w.in-Column.at w.column_bound.result w.in-Column.is w.column_bound.ensures)
      | in-Number w ↦ rw w.within_limit-is (leaf_number c.args.kinds.now c.args.expr.now w.in-Number.number w.max.result w.in-Number.is (w.max.ensures ∙ ap (λ n. max n 1) w.from.ensures) w.max.type_inv)
      | in-Text w ↦ rw w.within_limit-is (leaf_text c.args.kinds.now c.args.expr.now w.in-Text.field-0 w.in-Text.is)
      | in-Neg+in_ok-bound-in-Neg w ↦ rw w.within_limit-is (measured_neg c.args.kinds.now c.args.expr.now w.in-Neg.operand w.in_ok-bound-in-Neg.field-0 w.in-Neg.is (w.in_ok-bound-in-Neg.ensures.0 ∙ ap (bound_of c.args.kinds.now) w.get.ensures) (subst (IsBounded c.args.kinds.now) w.get.ensures w.in_ok-bound-in-Neg.ensures.1))
      | in-Sum+else-loop-term-test w ↦ rw w.within_limit-is (measured_sum c.args.kinds.now c.args.expr.now w.in-Sum.terms w.as_slice-term-items.result.now w.loop-term.term-index w.loop-term.sum w.in-Sum.is w.as_slice-term-items.ensures (search rules) w.loop-term.invariant)
      | in-Product+else-loop-factor-test w ↦ rw w.within_limit-is (measured_product c.args.kinds.now c.args.expr.now w.in-Product.factors w.as_slice-factor-items.result.now w.loop-factor.factor-index w.loop-factor.product w.in-Product.is w.as_slice-factor-items.ensures (search rules) w.loop-factor.invariant)
    ] in
    answered c.args.kinds.now c.args.expr.now c.match-expr.within_limit c.within_limit.result measured c.within_limit.ensures
