use Rattle.std.proofs.Common.{◌∙◌, ap, length, sym, refl}
use Rattle.sq_bridge.specs.Joins.{same_rows}
use Rattle.sq_plan.proofs.Primitives.{if_ok}
use Rattle.sq_plan.proofs.Resting.{found_next, others_next, others_room, rest_adds}
use Rattle.sq_plan.proofs.KeyedSteps.{appended_all, appended_none, joins_then}
use Rattle.sq_plan.specs.Keyed.{NoJoin}
use Rattle.sq_plan.proofs.draft.Draft.rest.Goals as goal

pub append-requires-clause-next : goal.append-requires-clause-next
append-requires-clause-next c = found_next c.args.self.now c.requires.room.draft c.args.left c.args.right c.requires.low_left c.requires.low_right c.requires.alike c.requires.once c.in_ok-op.op (c.in_ok-op.ensures ∙ ap (λ ks. same_rows (length ks)) c.kinds.ensures) c.in_ok-own.own c.in_ok-own.ensures

pub append-requires-2-clause-room : goal.append-requires-2-clause-room
append-requires-2-clause-room c = others_room c.args.self.now c.requires.room.draft c.args.left c.args.right c.requires.low_left c.requires.low_right c.requires.alike c.requires.once c.in_ok-op.op (c.in_ok-op.ensures ∙ ap (λ ks. same_rows (length ks)) c.kinds.ensures) c.in_ok-own.own c.in_ok-own.ensures
    c.append.new.self c.in_ok-found.found c.in_ok-found.ensures c.requires.room

pub append-requires-2-clause-next : goal.append-requires-2-clause-next
append-requires-2-clause-next c = others_next c.args.self.now c.requires.room.draft c.args.left c.args.right c.requires.low_left c.requires.low_right c.requires.alike c.requires.once c.in_ok-op.op (c.in_ok-op.ensures ∙ ap (λ ks. same_rows (length ks)) c.kinds.ensures) c.in_ok-own.own c.in_ok-own.ensures
    c.append.new.self c.in_ok-found.found c.in_ok-found.ensures c.args.kinds c.requires.give c.args.place

pub returns-clause-adds : goal.returns-clause-adds
returns-clause-adds c = if_ok c.append-2.result _ _ (λ i g. rest_adds c.args.self.now c.requires.room.draft c.args.left c.args.right c.requires.low_left c.requires.low_right c.requires.alike c.requires.once c.in_ok-op.op (c.in_ok-op.ensures ∙ ap (λ ks. same_rows (length ks)) c.kinds.ensures) c.in_ok-own.own c.in_ok-own.ensures
    c.append.new.self c.in_ok-found.found c.in_ok-found.ensures c.args.kinds c.requires.give c.args.place c.append-2.new.self i g) c.append-2.ensures

pub returns-clause-keyed : goal.returns-clause-keyed
returns-clause-keyed c = if_ok c.append-2.result _ _ (λ i g. joins_then c.args.self.now c.append.new.self c.append-2.new.self NoJoin
    (appended_all c.args.self.now c.append.new.self c.in_ok-found.found _ c.in_ok-found.ensures c.args.left c.args.right c.in_ok-op.op refl c.requires.low_right
    (c.in_ok-op.ensures ∙ ap (λ ks. same_rows (length ks)) c.kinds.ensures ∙ ap same_rows (sym c.requires.alike)))
    (appended_none c.append.new.self c.append-2.new.self i _ g (λ op h. h))) c.append-2.ensures
