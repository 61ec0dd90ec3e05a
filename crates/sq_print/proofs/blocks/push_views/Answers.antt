use Rattle.std.proofs.Common.{arith, ap, sym, ◌∙◌}
use Rattle.sq_print.proofs.ViewLemmas.{member, view_passed, table_passed}
use Rattle.sq_print.proofs.blocks.push_views.Goals.{then-is_view+in_ok-push_change_of, else-is_view}
use Rattle.sq_print.proofs.blocks.push_views.Goals as goal

pub loop-i-preserved : goal.loop-i-preserved
loop-i-preserved c = elim c.if-is_view.branch [
  | then-is_view+in_ok-push_change_of w ↦ (
    view_passed c.args.catalog.now c.args.changes.now c.loop-i.i c.loop-i.view c.if-is_view.view c.at-relation.result.now _ _ c.loop-i.out.items c.if-is_view.out.items
        c.loop-i.invariant.0 c.at-relation.ensures (sym c.is_view.ensures ∙ w.if-is_view.true) (member (λ z. z.now) w.get.result c.args.changes.now c.loop-i.view w.get.ensures.lookup.1 w.get.ensures.lookup.3) (ap (λ t. t.items) w.out-is ∙ w.in_ok-push_change_of.ensures) w.view-is,
    omega (arith, w.view-is, c.loop-i.invariant.1),
  )
  | else-is_view w ↦ (
    table_passed c.args.catalog.now c.args.changes.now c.loop-i.i c.loop-i.view c.if-is_view.view c.at-relation.result.now _ c.loop-i.out.items c.if-is_view.out.items
        c.loop-i.invariant.0 c.at-relation.ensures (sym c.is_view.ensures ∙ w.if-is_view.false) (ap (λ t. t.items) w.out-is) w.view-is,
    omega (arith, w.view-is, c.loop-i.invariant.1),
  )
]
