use Rattle.std.proofs.Common.{◌∙◌, ap, sym}
use Rattle.sq_algebra.specs.ZSet.{weight}
use Rattle.sq_zset.proofs.Entries.{kept}
use Rattle.sq_agg.specs.Accumulators.{count_place}
use Rattle.sq_agg.specs.Tallies.{tally_or_none}
use Rattle.sq_agg.proofs.PlaceOrder.{weight_of_count}
use Rattle.sq_agg.proofs.acc.Acc.count.Goals as goal

pub returns : goal.returns
returns c =
    kept c.tally_at.result.count c.tally_at.ensures.within.count
    ∙ ap (λ t. t.count) (c.tally_at.ensures.tally ∙ ap (tally_or_none c.args.call) c.deref.ensures.value)
    ∙ sym (weight_of_count c.self.inside.rows c.self.inside.tallies.items c.args.call) ∙ ap (weight (count_place c.args.call)) c.self.view_is
