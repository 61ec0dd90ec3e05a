use Rattle.std.proofs.Common.{◌∙◌, sym, subst}
use Rattle.std.specs.List.{AllByRecursion}
use Rattle.sq_expr.specs.Fits.{Suits}
use Rattle.sq_plan.specs.Drafts.{kinds_of}
use Rattle.sq_plan.proofs.GroupSteps.{selected_give, selected_is}
use Rattle.sq_plan.proofs.Primitives.{if_ok}
use Rattle.sq_plan.proofs.draft.Draft.selected.Goals as goal

pub project-requires-clause-suit : goal.project-requires-clause-suit
project-requires-clause-suit c = subst (AllByRecursion (Suits (kinds_of c.args.self.now c.args.rows))) (sym (c.in_ok-chosen.ensures ∙ c.as_slice-2.ensures)) c.requires.suit

pub project-requires-clause-give : goal.project-requires-clause-give
project-requires-clause-give c = selected_give c.args.self.now c.args.rows c.args.items.now c.in_ok-chosen.chosen c.as_slice.result.now c.in_ok-kinds.kinds c.kinds.result.now c.requires.suit c.kinds.ensures c.as_slice.ensures (c.in_ok-chosen.ensures ∙ c.as_slice-2.ensures) c.in_ok-kinds.ensures

pub returns-clause-adds : goal.returns-clause-adds
returns-clause-adds c = if_ok c.project.result _ _ (λ i a. selected_is c.args.self.now c.project.new.self c.args.rows c.args.items.now c.in_ok-chosen.chosen c.as_slice.result.now c.in_ok-kinds.kinds c.kinds.result.now i c.kinds.ensures c.as_slice.ensures (c.in_ok-chosen.ensures ∙ c.as_slice-2.ensures) c.in_ok-kinds.ensures a) c.project.ensures.adds
