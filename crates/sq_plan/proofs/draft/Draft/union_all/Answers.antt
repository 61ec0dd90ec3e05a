use Rattle.std.proofs.Common.{◌∙◌, ap, ap₂, length, sym}
use Rattle.sq_typed.specs.Fit.{wider_kinds}
use Rattle.sq_plan.specs.Drafts.{kinds_of}
use Rattle.sq_plan.proofs.Giving.{matched_length}
use Rattle.sq_plan.proofs.Primitives.{if_ok}
use Rattle.sq_plan.proofs.Stepping.{give_left, give_right, union_all_is}
use Rattle.sq_plan.proofs.draft.Draft.union_all.Goals as goal

pub wider_kinds-requires : goal.wider_kinds-requires
wider_kinds-requires c = ap length c.kinds-2.ensures ∙ matched_length (kinds_of c.args.self.now c.args.left) (kinds_of c.args.self.now c.args.right) c.requires.alike ∙ sym (ap length c.kinds.ensures)

pub plus-requires-clause-give_left : goal.plus-requires-clause-give_left
plus-requires-clause-give_left c = give_left c.args.self.now c.args.left c.args.right c.in_ok-kinds.kinds (c.in_ok-kinds.ensures ∙ ap₂ wider_kinds c.kinds.ensures c.kinds-2.ensures) c.requires.alike

pub plus-requires-clause-give_right : goal.plus-requires-clause-give_right
plus-requires-clause-give_right c = give_right c.args.self.now c.args.left c.args.right c.in_ok-kinds.kinds (c.in_ok-kinds.ensures ∙ ap₂ wider_kinds c.kinds.ensures c.kinds-2.ensures) c.requires.alike

pub returns-clause-adds : goal.returns-clause-adds
returns-clause-adds c = if_ok c.plus.result _ _ (λ i a. union_all_is c.args.self.now c.args.left c.args.right c.in_ok-kinds.kinds (c.in_ok-kinds.ensures ∙ ap₂ wider_kinds c.kinds.ensures c.kinds-2.ensures) c.requires.alike c.plus.new.self i a) c.plus.ensures.adds
