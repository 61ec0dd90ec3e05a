use Rattle.std.proofs.Common.{◌∙◌, ap, sym}
use Rattle.sq_algebra.specs.ZSet.{weight}
use Rattle.sq_agg.specs.Accumulators.{sum_place}
use Rattle.sq_agg.specs.Tallies.{tally_or_none}
use Rattle.sq_agg.proofs.Holding.{sum_kept}
use Rattle.sq_agg.proofs.PlaceOrder.{weight_of_sum}
use Rattle.sq_agg.proofs.acc.Acc.sum.Goals as goal

pub returns : goal.returns
returns c =
    sum_kept c.tally_at.result c.tally_at.ensures.within
    ∙ ap (λ t. t.sum) (c.tally_at.ensures.tally ∙ ap (tally_or_none c.args.call) c.deref.ensures.value)
    ∙ sym (weight_of_sum c.self.inside.rows c.self.inside.tallies.items c.args.call) ∙ ap (weight (sum_place c.args.call)) c.self.view_is
