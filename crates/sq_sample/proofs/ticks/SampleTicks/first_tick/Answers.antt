use Rattle.std.proofs.Common.{◌∙◌, ap}
use Rattle.sq_sample.specs.Ticks.{Place, tick}
use Rattle.sq_sample.proofs.Counting.{first_is}
use Rattle.sq_sample.proofs.ticks.SampleTicks.first_tick.Goals as goal

pub returns-clause-tick : goal.returns-clause-tick
returns-clause-tick c =
    first_is c.self.inside.seed c.insert_into_d.new.updates.items _ c.in_ok-insert_into_d.ensures c.in_ok-newest.ensures.told
    ∙ ap (λ (v : Place). tick v.seed 1) c.self.view_is
