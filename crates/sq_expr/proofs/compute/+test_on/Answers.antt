use Rattle.std.proofs.Common.{rules, ap, sym, ◌∙◌, if◌then◌else◌, not}
use Rattle.sq_value.specs.Truth.{opposite}
use Rattle.sq_expr.specs.declared.cond.Cond.{the_lemmas}
use Rattle.sq_expr.specs.declared.cond.Cond.TheVariants.{All, Any}
use Rattle.sq_expr.specs.Meaning.{num, truth, value_of, comparison, is_null, tri_of}
use Rattle.sq_expr.proofs.Equations.{truth-Compare, truth-Null, truth-Not}
use Rattle.sq_expr.proofs.FitsLemmas.{fits_left, fits_right, fits_null, fits_not, fits_all, fits_any}
use Rattle.sq_expr.proofs.Truths.{differs, least_stuck, least_ends, greatest_stuck, greatest_ends}
use Rattle.sq_expr.proofs.compute.+test_on.Goals as goal

pub eval_on-requires : goal.eval_on-requires
eval_on-requires t c = fits_left c.args.row.now c.args.cond.now c.in-Compare.cmp c.in-Compare.left c.in-Compare.right c.in-Compare.is c.requires

pub eval_on-requires-in-Compare : goal.eval_on-requires-in-Compare
eval_on-requires-in-Compare t c = fits_right c.args.row.now c.args.cond.now c.in-Compare.cmp c.in-Compare.left c.in-Compare.right c.in-Compare.is c.requires

pub eval_on-requires-in-Null : goal.eval_on-requires-in-Null
eval_on-requires-in-Null t c = fits_null c.args.row.now c.args.cond.now c.in-Null.expr c.in-Null.negated c.in-Null.is c.requires

pub test_on-requires : goal.test_on-requires
test_on-requires t c = (search (rules, the_lemmas), fits_not c.args.row.now c.args.cond.now c.in-Not.operand c.get.result.now c.in-Not.is c.get.ensures c.requires)

pub test_on-requires-in-loop-member : goal.test_on-requires-in-loop-member
test_on-requires-in-loop-member t c = (search (rules, the_lemmas), fits_all c.args.row.now c.args.cond.now c.in-All.members c.as_slice-member-items.result.now c.loop-member.member-index c.member-item.result c.in-All.is c.as_slice-member-items.ensures (search rules) c.member-item.is c.requires)

pub returns-in-False : goal.returns-in-False
returns-in-False t c = record {
  truth = least_stuck c.args.row.now c.as_slice-member-items.result.now c.loop-member.member-index c.member-item.result c.loop-member.all c.test_on-in-loop-member.result c.and-all.result (search rules) c.member-item.is c.test_on-in-loop-member.ensures.truth c.loop-member.invariant c.and-all.ensures.least c.in-False.is ∙
      ap (λ a. truth a c.args.row.now) (ap All c.as_slice-member-items.ensures ∙ sym c.in-All.is);
}

pub returns-in-True : goal.returns-in-True
returns-in-True t c = record {
  truth = greatest_stuck c.args.row.now c.as_slice-choice-items.result.now c.loop-choice.choice-index c.choice-item.result c.loop-choice.any c.test_on-in-loop-choice.result c.or-any.result (search rules) c.choice-item.is c.test_on-in-loop-choice.ensures.truth c.loop-choice.invariant c.or-any.ensures.greatest c.in-True.is ∙
      ap (λ a. truth a c.args.row.now) (ap Any c.as_slice-choice-items.ensures ∙ sym c.in-Any.is);
}

pub test_on-requires-in-loop-choice : goal.test_on-requires-in-loop-choice
test_on-requires-in-loop-choice t c = (search (rules, the_lemmas), fits_any c.args.row.now c.args.cond.now c.in-Any.choices c.as_slice-choice-items.result.now c.loop-choice.choice-index c.choice-item.result c.in-Any.is c.as_slice-choice-items.ensures (search rules) c.choice-item.is c.requires)

pub returns-in-Compare : goal.returns-in-Compare
returns-in-Compare t c = record {
  truth = c.compare.ensures ∙ ap (λ x. comparison c.in-Compare.cmp x (value_of c.eval_on-in-Compare.result)) c.eval_on.ensures.num ∙
      ap (comparison c.in-Compare.cmp (num c.in-Compare.left c.args.row.now)) c.eval_on-in-Compare.ensures.num ∙
      sym (truth-Compare c.in-Compare.cmp c.in-Compare.left c.in-Compare.right c.args.row.now) ∙ ap (λ a. truth a c.args.row.now) (sym c.in-Compare.is);
}

pub returns-in-Null : goal.returns-in-Null
returns-in-Null t c = record {
  truth = c.truth_of.ensures ∙ ap tri_of (differs c.in-Null.negated c.is_null.result ∙ ap (λ x. if c.in-Null.negated then not x else x) (c.is_null.ensures ∙ ap is_null c.eval_on-in-Null.ensures.num)) ∙
      sym (truth-Null c.in-Null.expr c.in-Null.negated c.args.row.now) ∙ ap (λ a. truth a c.args.row.now) (sym c.in-Null.is);
}

pub returns-in-Not : goal.returns-in-Not
returns-in-Not t c = record {
  truth = c.not.ensures.opposite ∙ ap opposite (c.test_on.ensures.truth ∙ ap (λ a. truth a c.args.row.now) c.get.ensures) ∙ sym (truth-Not c.in-Not.operand c.args.row.now) ∙ ap (λ a. truth a c.args.row.now) (sym c.in-Not.is);
}

pub returns-after-loop-member : goal.returns-after-loop-member
returns-after-loop-member t c = record {
  truth = least_ends c.args.row.now c.as_slice-member-items.result.now c.loop-member.member-index c.loop-member.all (search rules) c.loop-member.invariant ∙ ap (λ a. truth a c.args.row.now) (ap All c.as_slice-member-items.ensures ∙ sym c.in-All.is);
}

pub returns-after-loop-choice : goal.returns-after-loop-choice
returns-after-loop-choice t c = record {
  truth = greatest_ends c.args.row.now c.as_slice-choice-items.result.now c.loop-choice.choice-index c.loop-choice.any (search rules) c.loop-choice.invariant ∙ ap (λ a. truth a c.args.row.now) (ap Any c.as_slice-choice-items.ensures ∙ sym c.in-Any.is);
}
