use Rattle.std.proofs.Common.{◌∙◌, ap, ap₂, map}
use Rattle.sq_algebra.specs.ZSet.{negate}
use Rattle.sq_agg.specs.Accumulators.{accumulator}
use Rattle.sq_agg.specs.Tallies.{turned}
use Rattle.sq_agg.proofs.Adding.{subtracted}
use Rattle.sq_agg.proofs.Bounding.{none_outside}
use Rattle.sq_agg.proofs.Holding.{turned_kept, turned_within}
use Rattle.sq_agg.proofs.acc.AccGroup.negate.Goals as goal

pub returns-clause-ok : goal.returns-clause-ok
returns-clause-ok c =
    ap₂ accumulator (turned_kept c.self.inside.rows c.self.invariant.rows) (c.in_ok-tallies.ensures.ok ∙ ap (map turned) c.deref.ensures.value)
    ∙ subtracted c.self.inside.rows c.self.inside.tallies.items ∙ ap (λ x. negate x) c.self.view_is

pub returns-clause-in_range : goal.returns-clause-in_range
returns-clause-in_range c =
    none_outside _ c.in_ok-tallies.tallies.items (record { rows = turned_within c.self.inside.rows c.self.invariant.rows; tallies = c.in_ok-tallies.ensures.within })
