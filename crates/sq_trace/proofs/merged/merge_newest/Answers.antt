use Rattle.std.proofs.Common.{subst}
use Rattle.sq_trace.specs.Inside.{IsSum}
use Rattle.sq_trace.proofs.Commits.{merging_goes_on}
use Rattle.sq_trace.proofs.merged.merge_newest.Goals as goal

pub loop-alloc-preserved : goal.loop-alloc-preserved
loop-alloc-preserved g c =
    merging_goes_on g.P.Group.addition g.met.P.Group.laws g.P.Group.first_outside c.args.parts.now c.args.change.now c.loop-alloc.run.items c.index-parts-stay.result c.entries.result.now c.in_ok-run-2.run'.items c.loop-alloc.stay
    c.loop-alloc.invariant (c.may_stand_behind.ensures.some c.loop-alloc-test.true) c.index-parts-stay.is c.entries.ensures.entries
    (subst (λ run. IsSum g.P.Group.addition g.P.Group.first_outside c.entries.result.now run c.in_ok-run-2.run'.items) c.deref-in-loop-alloc.ensures.value c.in_ok-run-2.ensures.ok)
