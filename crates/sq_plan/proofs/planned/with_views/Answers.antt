use Rattle.std.proofs.Common.{◌++◌, ◌∷◌, [], ap, ◌∙◌, slice_index_or}
use Rattle.sq_plan.specs.Program.{view_part}
use Rattle.sq_plan.proofs.FromLoop.{found}
use Rattle.sq_plan.proofs.RelationsEnd.{one_more_view, views_begin}
use Rattle.sq_plan.proofs.planned.with_views.Goals as goal

pub loop-view-init : goal.loop-view-init
loop-view-init c = views_begin c.args.parts.items c.args.shown.now

pub loop-view-preserved : goal.loop-view-preserved
loop-view-preserved c =
    one_more_view c.args.parts.items c.args.shown.now c.loop-view.view c.loop-view.parts.items c.loop-view.invariant c.requires.low _ (found c.args.shown.now c.loop-view.view 0 c.loop-view-test.true) c.push.new.self.items
    (c.in_ok-push.ensures.items ∙ ap (λ x. c.loop-view.parts.items ++ x ∷ []) (c.in_ok-part.ensures ∙ ap (λ ps. view_part ps c.loop-view.view (slice_index_or c.args.shown.now c.loop-view.view 0)) c.as_slice.ensures.value))
