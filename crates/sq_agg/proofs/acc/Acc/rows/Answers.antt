use Rattle.std.proofs.Common.{◌∙◌, ap, sym}
use Rattle.sq_algebra.specs.ZSet.{weight}
use Rattle.sq_zset.proofs.Entries.{kept}
use Rattle.sq_agg.specs.Accumulators.{first_number_outside}
use Rattle.sq_agg.proofs.Bounding.{none_outside}
use Rattle.sq_agg.proofs.PlaceOrder.{weight_of_rows}
use Rattle.sq_agg.proofs.acc.Acc.rows.Goals as goal

pub returns-clause-rows : goal.returns-clause-rows
returns-clause-rows c = kept c.self.inside.rows c.self.invariant.rows ∙ sym (weight_of_rows c.self.inside.rows c.self.inside.tallies.items) ∙ ap (weight 0) c.self.view_is

pub returns-clause-in_range : goal.returns-clause-in_range
returns-clause-in_range c = ap first_number_outside (sym c.self.view_is) ∙ none_outside c.self.inside.rows c.self.inside.tallies.items c.self.invariant
