use Rattle.std.proofs.Common.{rules, ap, sym, ◌∙◌}
use Rattle.sq_expr.specs.declared.expr.Expr.{the_lemmas}
use Rattle.sq_expr.specs.declared.expr.Expr.TheVariants.{Sum, Product}
use Rattle.sq_expr.proofs.Equations.{num-Column, num-Number, num-Text}
use Rattle.sq_expr.proofs.Exact.{sum_more, product_more, sum_all, product_all, negated}
use Rattle.sq_expr.proofs.FitsLemmas.{fits_neg, fits_term, fits_factor}
use Rattle.sq_expr.specs.Meaning.{num, value_of}
use Rattle.std.specs.Int.{w128}
use Rattle.std.proofs.lemmas.Int.{to_z-of_z}
use Rattle.sq_value.specs.declared.value.Value.TheVariants.{Int}
use Rattle.sq_expr.proofs.compute.+eval_on.Goals as goal

pub eval_on-requires : goal.eval_on-requires
eval_on-requires t c = (search (rules, the_lemmas), fits_neg c.args.row.now c.args.expr.now c.in-Neg.operand c.get.result.now c.in-Neg.is c.get.ensures c.requires)

pub eval_on-requires-in-loop-term : goal.eval_on-requires-in-loop-term
eval_on-requires-in-loop-term t c = (search (rules, the_lemmas), fits_term c.args.row.now c.args.expr.now c.in-Sum.terms c.as_slice-term-items.result.now c.loop-term.term-index c.term-item.result c.in-Sum.is c.as_slice-term-items.ensures (search rules) c.term-item.is c.requires)

pub loop-term-preserved : goal.loop-term-preserved
loop-term-preserved t c = sum_more c.args.row.now c.as_slice-term-items.result.now c.loop-term.term-index c.term-item.result (value_of c.loop-term.sum) (value_of c.eval_on-in-loop-term.result) (value_of c.add-sum.result) (search rules) c.term-item.is c.loop-term.invariant c.eval_on-in-loop-term.ensures.num c.add-sum.ensures

pub eval_on-requires-in-loop-factor : goal.eval_on-requires-in-loop-factor
eval_on-requires-in-loop-factor t c = (search (rules, the_lemmas), fits_factor c.args.row.now c.args.expr.now c.in-Product.factors c.as_slice-factor-items.result.now c.loop-factor.factor-index c.factor-item.result c.in-Product.is c.as_slice-factor-items.ensures (search rules) c.factor-item.is c.requires)

pub loop-factor-preserved : goal.loop-factor-preserved
loop-factor-preserved t c = product_more c.args.row.now c.as_slice-factor-items.result.now c.loop-factor.factor-index c.factor-item.result (value_of c.loop-factor.product) (value_of c.eval_on-in-loop-factor.result) (value_of c.times-product.result) (search rules) c.factor-item.is c.loop-factor.invariant c.eval_on-in-loop-factor.ensures.num c.times-product.ensures

pub returns-in-Column : goal.returns-in-Column
returns-in-Column t c = record { num = c.column.ensures ∙ sym (num-Column c.in-Column.at c.args.row.now) ∙ ap (λ e. num e c.args.row.now) (sym c.in-Column.is) }

pub returns-in-Number : goal.returns-in-Number
returns-in-Number t c = record { num = ap Int (to_z-of_z w128 c.from.result (record { sfits = c.from.type_inv })) ∙ ap Int c.from.ensures ∙ sym (num-Number c.in-Number.number c.args.row.now) ∙ ap (λ e. num e c.args.row.now) (sym c.in-Number.is) }

pub returns-in-Text : goal.returns-in-Text
returns-in-Text t c = record { num = sym (num-Text c.in-Text.text c.args.row.now) ∙ ap (λ e. num e c.args.row.now) (sym c.in-Text.is) }

pub returns-in-Neg : goal.returns-in-Neg
returns-in-Neg t c = record { num = negated c.args.row.now c.in-Neg.operand c.args.expr.now (value_of c.eval_on.result) (value_of c.negated.result) c.in-Neg.is c.requires (c.eval_on.ensures.num ∙ ap (λ e. num e c.args.row.now) c.get.ensures) c.negated.ensures }

pub returns-after-loop-term : goal.returns-after-loop-term
returns-after-loop-term t c = record { num = sum_all c.args.row.now c.as_slice-term-items.result.now c.loop-term.term-index c.args.expr.now (value_of c.loop-term.sum) (search rules) (c.in-Sum.is ∙ ap Sum (sym c.as_slice-term-items.ensures)) c.requires c.loop-term.invariant }

pub returns-after-loop-factor : goal.returns-after-loop-factor
returns-after-loop-factor t c = record { num = product_all c.args.row.now c.as_slice-factor-items.result.now c.loop-factor.factor-index c.args.expr.now (value_of c.loop-factor.product) (search rules) (c.in-Product.is ∙ ap Product (sym c.as_slice-factor-items.ensures)) c.requires c.loop-factor.invariant }
