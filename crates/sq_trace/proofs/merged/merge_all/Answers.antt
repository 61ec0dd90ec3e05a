use Rattle.std.proofs.Common.{subst}
use Rattle.sq_trace.specs.Inside.{IsSum}
use Rattle.sq_trace.proofs.Commits.{all_in_range, merging_all}
use Rattle.sq_trace.proofs.merged.merge_all.Goals as goal

pub merge_in_range-requires-clause-in_range : goal.merge_in_range-requires-clause-in_range
merge_in_range-requires-clause-in_range g c =
    rw c.deref.ensures.value (all_in_range g.P.Group.addition g.met.P.Group.laws g.P.Group.first_outside c.args.parts.now c.args.change.now c.in_ok-held.held.items c.in_ok-held.ensures c.requires.in_range)

pub returns : goal.returns
returns g c =
    merging_all g.P.Group.addition g.met.P.Group.laws g.P.Group.first_outside c.args.parts.now c.args.change.now c.in_ok-held.held.items c.in_ok-run.run'.items c.in_ok-held.ensures
    (subst (λ run. IsSum g.P.Group.addition g.P.Group.first_outside run c.args.change.now c.in_ok-run.run'.items) c.deref.ensures.value c.in_ok-run.ensures)
