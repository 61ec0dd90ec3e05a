use Rattle.std.proofs.Common.{◌+◌, ◌%◌, ◌∙◌, ap}
use Rattle.sq_sample.specs.Ticks.{Place, tick}
use Rattle.sq_sample.proofs.Counting.{insert_ticks, kept_after_insert}
use Rattle.sq_sample.proofs.ticks.SampleTicks.insert_row.Goals as goal

pub invariant_of-self : goal.invariant_of-self
invariant_of-self c =
    kept_after_insert c.self.inside.seed c.self.inside.made c.self.inside.newest.state c.self.inside.newest.number _ _ _ _
    (ap (λ (v : Place). v.made % 2) c.self.view_is ∙ c.requires.odd) c.self.invariant c.advanced-self-inside.ensures.state c.advanced-self-inside.ensures.number

pub returns-clause-tick : goal.returns-clause-tick
returns-clause-tick c =
    c.in_ok-updates.ensures
    ∙ (insert_ticks c.self.inside.seed c.self.inside.made c.self.inside.newest.state c.self.inside.newest.number _ _
    (ap (λ (v : Place). v.made % 2) c.self.view_is ∙ c.requires.odd) c.self.invariant
    ∙ ap (λ (v : Place). tick v.seed (v.made + 1)) c.self.view_is)
