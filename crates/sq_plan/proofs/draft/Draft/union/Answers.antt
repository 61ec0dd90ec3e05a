use Rattle.std.proofs.Common.{◌∙◌, ap, ap₂, length, sym}
use Rattle.sq_typed.specs.Fit.{wider_kinds}
use Rattle.sq_plan.specs.Drafts.{kinds_of}
use Rattle.sq_plan.proofs.Giving.{matched_length}
use Rattle.sq_plan.proofs.Primitives.{if_ok}
use Rattle.sq_plan.proofs.Stepping.{once_all_next, once_room, sum_next, sum_there, union_is}
use Rattle.sq_plan.proofs.KeyedSteps.{appended_none, joins_then}
use Rattle.sq_plan.specs.Keyed.{NoJoin}
use Rattle.sq_plan.proofs.draft.Draft.union.Goals as goal

pub wider_kinds-requires : goal.wider_kinds-requires
wider_kinds-requires c = ap length c.kinds-2.ensures ∙ matched_length (kinds_of c.args.self.now c.args.left) (kinds_of c.args.self.now c.args.right) c.requires.alike ∙ sym (ap length c.kinds.ensures)

pub append-requires-clause-next : goal.append-requires-clause-next
append-requires-clause-next c = sum_next c.args.self.now c.args.left c.args.right c.in_ok-kinds.kinds (c.in_ok-kinds.ensures ∙ ap₂ wider_kinds c.kinds.ensures c.kinds-2.ensures) c.requires.alike c.requires.room.draft c.requires.low_left c.requires.low_right

pub copy_kinds-requires : goal.copy_kinds-requires
copy_kinds-requires c = sum_there c.args.self.now c.args.left c.args.right c.in_ok-kinds.kinds (c.in_ok-kinds.ensures ∙ ap₂ wider_kinds c.kinds.ensures c.kinds-2.ensures) c.requires.alike
    c.requires.room.draft c.requires.low_left c.requires.low_right c.append.new.self c.in_ok-all.all c.in_ok-all.ensures

pub add-requires-clause-room : goal.add-requires-clause-room
add-requires-clause-room c = once_room c.args.self.now c.args.left c.args.right c.in_ok-kinds.kinds (c.in_ok-kinds.ensures ∙ ap₂ wider_kinds c.kinds.ensures c.kinds-2.ensures) c.requires.alike
    c.requires.room.draft c.requires.low_left c.requires.low_right c.append.new.self c.in_ok-all.all c.in_ok-all.ensures c.requires.room

pub add-requires-clause-next : goal.add-requires-clause-next
add-requires-clause-next c = once_all_next c.args.self.now c.args.left c.args.right c.in_ok-kinds.kinds (c.in_ok-kinds.ensures ∙ ap₂ wider_kinds c.kinds.ensures c.kinds-2.ensures) c.requires.alike
    c.requires.room.draft c.requires.low_left c.requires.low_right c.append.new.self c.in_ok-all.all c.in_ok-all.ensures c.in_ok-kinds-2.kinds c.in_ok-kinds-2.ensures

pub returns-clause-adds : goal.returns-clause-adds
returns-clause-adds c = if_ok c.add.result _ _ (λ i b. union_is c.args.self.now c.args.left c.args.right c.in_ok-kinds.kinds (c.in_ok-kinds.ensures ∙ ap₂ wider_kinds c.kinds.ensures c.kinds-2.ensures) c.requires.alike
    c.requires.room.draft c.requires.low_left c.requires.low_right c.append.new.self c.in_ok-all.all c.in_ok-all.ensures c.in_ok-kinds-2.kinds c.in_ok-kinds-2.ensures c.add.new.self i b) c.add.ensures.adds

pub returns-clause-keyed : goal.returns-clause-keyed
returns-clause-keyed c = if_ok c.add.result _ _ (λ i g. joins_then c.args.self.now c.append.new.self c.add.new.self NoJoin (appended_none c.args.self.now c.append.new.self c.in_ok-all.all _ c.in_ok-all.ensures (λ op h. h)) (appended_none c.append.new.self c.add.new.self i _ g (λ op h. h))) c.add.ensures.appends
