use Rattle.std.proofs.Common.{◌∙◌, ap₂, ◌&&◌, int_eq, pos}
use Rattle.std.specs.List.{list_all}
use Rattle.sq_zset.proofs.Entries.{kept}
use Rattle.sq_agg.specs.Tallies.{is_no_tally}
use Rattle.sq_agg.proofs.Holding.{zero_shown}
use Rattle.sq_agg.proofs.acc.AccGroup.is_zero.Goals as goal

pub returns : goal.returns
returns c =
    zero_shown c.self.inside.rows c.self.inside.tallies.items c.args.self.now c.is_nothing.result c.self.view_is
    (c.is_nothing.ensures ∙ ap₂ (λ n ts. int_eq n (pos 0) && list_all is_no_tally ts) (kept c.self.inside.rows c.self.invariant.rows) c.deref.ensures.value)
