use Rattle.std.proofs.Common.{subst, sym}
use Rattle.sq_engine.specs.Ticking.{CanPrepareAll}
use Rattle.sq_engine.proofs.Readied.{all_prepared, can_prepare, summed_fits}
use Rattle.sq_engine.proofs.tick.prepare_tick.Goals as goal

pub prepare_all-requires-clause-all : goal.prepare_all-requires-clause-all
prepare_all-requires-clause-all g c =
    subst (λ n. CanPrepareAll n c.args.states.now c.in_ok-pieces.pieces) (sym c.len-nodes.ensures.len)
    (can_prepare c.len-nodes.ensures.sound c.requires.ready c.deref.result.now c.in_ok-pieces.pieces (c.in_ok-pieces.ensures.ok c.requires.ready))

pub view_changes-requires-clause-in_range : goal.view_changes-requires-clause-in_range
view_changes-requires-clause-in_range g c = summed_fits c.len-nodes.ensures.sound c.requires.ready c.deref.result.now c.in_ok-pieces.pieces (c.in_ok-pieces.ensures.ok c.requires.ready)

pub returns-clause-ok : goal.returns-clause-ok
returns-clause-ok g c r =
    all_prepared c.len-nodes.ensures.sound r c.deref.result.now c.in_ok-pieces.pieces (c.in_ok-pieces.ensures.ok r) c.in_ok-ready.ready.items c.in_ok-totals.totals.items c.in_ok-views.views.items
    c.in_ok-ready.ensures c.in_ok-totals.ensures c.in_ok-views.ensures
