use Rattle.std.proofs.Common.{rules, take}
use Rattle.sq_scope.specs.NamesReferences.{is_at_fault}
use Rattle.sq_scope.proofs.NamesReferences.{any_terms, any_factors, any-Column, any_no_argument, any_argument}
use Rattle.sq_typed.proofs.TreeEquations.{refs-Neg, refs-Number, refs-Text}
use Rattle.sq_scope.proofs.references.+any_in_expr.Goals as goal

pub returns-after-loop-term : goal.returns-after-loop-term
returns-after-loop-term t c = any_terms (is_at_fault c.args.fault (take c.args.sources c.args.scope.now)) c.args.expr.now c.in-Sum.terms c.as_slice-term-items.result.now c.loop-term.term-index c.loop-term.any c.in-Sum.is c.as_slice-term-items.ensures (search rules) c.loop-term.invariant

pub returns-after-loop-factor : goal.returns-after-loop-factor
returns-after-loop-factor t c = any_factors (is_at_fault c.args.fault (take c.args.sources c.args.scope.now)) c.args.expr.now c.in-Product.factors c.as_slice-factor-items.result.now c.loop-factor.factor-index c.loop-factor.any c.in-Product.is c.as_slice-factor-items.ensures (search rules) c.loop-factor.invariant

pub returns-in-Neg : goal.returns-in-Neg
returns-in-Neg t c = cc (refs-Neg c.in-Neg.operand)

pub returns-in-Number : goal.returns-in-Number
returns-in-Number t c = rw (c.in-Number.is, refs-Number c.in-Number.field-0)

pub returns-in-Text : goal.returns-in-Text
returns-in-Text t c = rw (c.in-Text.is, refs-Text c.in-Text.field-0)

pub returns-in-Column : goal.returns-in-Column
returns-in-Column t c = cc (any-Column (is_at_fault c.args.fault (take c.args.sources c.args.scope.now)) c.in-Column.r)

pub returns-in-None : goal.returns-in-None
returns-in-None t c = any_no_argument (is_at_fault c.args.fault (take c.args.sources c.args.scope.now)) c.args.expr.now c.in-Call.func c.in-Call.arg c.in-Call.is c.in-None.is

pub returns-in-Some : goal.returns-in-Some
returns-in-Some t c = any_argument (is_at_fault c.args.fault (take c.args.sources c.args.scope.now)) c.args.expr.now c.in-Call.func c.in-Call.arg c.in-Some.expr c.get-in-Some.result.now c.any_in_expr-in-Some.result c.in-Call.is c.in-Some.is c.get-in-Some.ensures c.any_in_expr-in-Some.ensures
