use Rattle.std.proofs.Common.{◌≡◌, ◌∙◌, None, subst, subst₂, sym, ap}
use Rattle.sq_trace.specs.Runs.{Place, content, KeepsLengths}
use Rattle.sq_trace.specs.Changes.{changed, committed}
use Rattle.sq_trace.specs.Inside.{IsMerged}
use Rattle.sq_trace.proofs.Commits.{commit_sums, lengths_kept}
use Rattle.sq_trace.proofs.trace.Trace.prepare.Goals as goal

pub returns-clause-sums : goal.returns-clause-sums
returns-clause-sums g c p =
    let G = g.P.Group.addition in
    let stay = c.in_ok-merged.merged.stay in
    let merged : IsMerged G g.P.Group.first_outside c.args.self.now c.args.change.now stay c.in_ok-merged.merged.run.items =
    subst₂ (λ parts change. IsMerged G g.P.Group.first_outside parts change stay c.in_ok-merged.merged.run.items) (c.deref-2.ensures.value ∙ c.self.view_is) c.entries-2.ensures.entries c.in_ok-merged.ensures in
    ap (λ run. content G p (committed c.args.self.now (stay, run))) c.from_run.ensures
    ∙ commit_sums G g.met.P.Group.laws g.P.Group.first_outside c.args.self.now c.args.change.now c.in_ok-merged.merged.run.items stay merged.merging p

pub returns-clause-in_range : goal.returns-clause-in_range
returns-clause-in_range g c p =
    let G = g.P.Group.addition in
    let within : (q : Place) → g.P.Group.first_outside (changed G c.args.self.now c.args.change.now q) ≡ None =
    subst₂ (λ parts change. (q : Place) → g.P.Group.first_outside (changed G parts change q) ≡ None) (c.deref.ensures.value ∙ c.self.view_is) c.entries.ensures.entries c.in_ok-test_change.ensures.ok in
    ap g.P.Group.first_outside (returns-clause-sums g c p) ∙ within p

pub returns-clause-lengths : goal.returns-clause-lengths
returns-clause-lengths g c keeps =
    let G = g.P.Group.addition in
    let stay = c.in_ok-merged.merged.stay in
    let merged : IsMerged G g.P.Group.first_outside c.args.self.now c.args.change.now stay c.in_ok-merged.merged.run.items =
    subst₂ (λ parts change. IsMerged G g.P.Group.first_outside parts change stay c.in_ok-merged.merged.run.items) (c.deref-2.ensures.value ∙ c.self.view_is) c.entries-2.ensures.entries c.in_ok-merged.ensures in
    subst (λ run. KeepsLengths (committed c.args.self.now (stay, run))) (sym c.from_run.ensures) (lengths_kept c.args.self.now stay c.in_ok-merged.merged.run.items merged.lengths keeps)
