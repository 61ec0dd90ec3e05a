use Rattle.std.proofs.Common.{take, ◌+◌, ap, sym, subst, ◌∙◌, rules}
use Rattle.sq_scope.proofs.TypesStarsOnce.{Told, with_item, without_item}
use Rattle.sq_scope.proofs.stars.each_star_once.Goals as goal
use Rattle.sq_scope.proofs.stars.each_star_once.Goals.{then-is_new+in_ok-push, else-is_new}

pub loop-item-preserved : goal.loop-item-preserved
loop-item-preserved c = elim c.if-is_new.branch [
  | then-is_new+in_ok-push w ↦ with_item c.loop-item.kept.items c.loop-item.seen c.take_in.new.self c.args.items.now c.loop-item.item-index _ c.loop-item.invariant (search rules) c.item-item.is c.in_ok-is_new.ensures.seen c.if-is_new.kept.items (ap (λ v. v.items) w.kept-is ∙ w.in_ok-push.ensures.items)
  | else-is_new w ↦ subst (λ v. Told v.items c.take_in.new.self (take (c.loop-item.item-index + 1) c.args.items.now)) (sym w.kept-is) (without_item c.loop-item.kept.items c.loop-item.seen c.take_in.new.self c.args.items.now c.loop-item.item-index (record { ref_ptr = (0, 0); now = c.item-item.result }) c.loop-item.invariant (search rules) c.item-item.is c.in_ok-is_new.ensures.seen c.in_ok-is_new.is_new c.in_ok-is_new.ensures.told w.if-is_new.false)
]
