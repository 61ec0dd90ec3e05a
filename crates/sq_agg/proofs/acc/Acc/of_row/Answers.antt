use Rattle.std.proofs.Common.{◌∙◌, ap, ap₂, map, sym, to_z-of_z}
use Rattle.sq_ops.specs.Measures.{weighted}
use Rattle.sq_ops.proofs.Measuring.{total_of_row}
use Rattle.sq_agg.specs.Accumulators.{accumulator, call_tally}
use Rattle.sq_agg.proofs.Bounding.{none_outside}
use Rattle.sq_agg.proofs.Holding.{kept_bound}
use Rattle.sq_agg.proofs.acc.Acc.of_row.Goals as goal

pub returns-clause-ok : goal.returns-clause-ok
returns-clause-ok c =
    ap₂ accumulator (to_z-of_z c.ranges.weight ∙ sym (total_of_row c.args.row.now c.args.weight))
    (c.in_ok-tallies.ensures.ok
    ∙ ap (λ n. map (call_tally (weighted c.args.row.now n)) c.as_slice.result.now) (to_z-of_z c.ranges.weight)
    ∙ ap (map (call_tally (weighted c.args.row.now c.args.weight))) c.as_slice.ensures)

pub returns-clause-in_range : goal.returns-clause-in_range
returns-clause-in_range c =
    none_outside _ c.in_ok-tallies.tallies.items (record { rows = kept_bound c.args.weight c.requires; tallies = c.in_ok-tallies.ensures.within })
