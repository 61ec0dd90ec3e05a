use Rattle.std.proofs.Common.{rules, ◌≡◌, subst, sym}
use Rattle.sq_trace.specs.Runs.{FrontsInRange}
use Rattle.sq_trace.specs.Changes.{committed}
use Rattle.sq_trace.proofs.Commits.{fronts_kept}
use Rattle.sq_trace.proofs.trace.Trace.commit.Goals as goal

pub invariant_of-self : goal.invariant_of-self
invariant_of-self g c =
    let is : c.push.new.self.items ≡ committed c.args.self.now c.args.prepared = search rules in
    subst (FrontsInRange g.P.Group.addition g.P.Group.first_outside) (sym is)
    (fronts_kept g.P.Group.addition g.P.Group.first_outside c.args.self.now c.args.prepared (subst (FrontsInRange g.P.Group.addition g.P.Group.first_outside) c.self.view_is c.self.invariant) c.requires.in_range)
