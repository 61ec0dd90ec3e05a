use Rattle.std.proofs.Common.{[], pos, refl, ◌∙◌, ap}
use Rattle.sq_agg.specs.Accumulators.{accumulator, first_number_outside}
use Rattle.sq_agg.specs.GroupLaws.{nothing_is_in_range}
use Rattle.sq_agg.proofs.Bounding.{zero_where}
use Rattle.sq_agg.proofs.acc.AccGroup.zero.Goals as goal

pub returns-clause-zero : goal.returns-clause-zero
returns-clause-zero c = ap (accumulator (pos 0)) c.new.ensures.items ∙ (zero_where (pos 0) []).0 refl

pub returns-clause-in_range : goal.returns-clause-in_range
returns-clause-in_range c = ap first_number_outside (returns-clause-zero c) ∙ nothing_is_in_range
