use Rattle.std.proofs.Common.{◌+◌, ◌%◌, ◌≤◌, ◌∙◌, ap, subst, sym}
use Rattle.sq_sample.specs.Ticks.{Place, tick}
use Rattle.sq_sample.proofs.Counting.{delete_ticks, kept_after_delete}
use Rattle.sq_sample.proofs.ticks.SampleTicks.delete_row.Goals as goal

pub invariant_of-self : goal.invariant_of-self
invariant_of-self c =
    kept_after_delete c.self.inside.seed c.self.inside.made _ _ c.self.inside.oldest.state c.self.inside.oldest.number _ _
    (subst (λ (v : Place). 1 ≤ v.made) (sym c.self.view_is) c.requires.some) (ap (λ (v : Place). v.made % 2) c.self.view_is ∙ c.requires.even)
    c.self.invariant c.advanced-self-inside.ensures.state c.advanced-self-inside.ensures.number

pub returns-clause-tick : goal.returns-clause-tick
returns-clause-tick c =
    c.in_ok-updates.ensures
    ∙ (delete_ticks c.self.inside.seed c.self.inside.made _ _ c.self.inside.oldest.state c.self.inside.oldest.number
    (subst (λ (v : Place). 1 ≤ v.made) (sym c.self.view_is) c.requires.some) (ap (λ (v : Place). v.made % 2) c.self.view_is ∙ c.requires.even) c.self.invariant
    ∙ ap (λ (v : Place). tick v.seed (v.made + 1)) c.self.view_is)
