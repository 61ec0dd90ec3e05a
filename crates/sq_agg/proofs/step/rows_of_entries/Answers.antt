use Rattle.std.proofs.Common.{rules, ◌≡◌, ◌∙◌, ◌≤◌, ◌^◌, ap, length, Err}
use Rattle.sq_zset.specs.declared.pair.ZFault.TheVariants.{Weight}
use Rattle.sq_agg.proofs.Turning.{units_inside, units_weigh}
use Rattle.sq_agg.proofs.step.rows_of_entries.Goals as goal

pub consolidate-requires : goal.consolidate-requires
consolidate-requires c =
    let short : length c.args.entries.now ≤ 2 ^ 62 = search rules in
    units_weigh c.args.entries.now c.in_ok-pairs.pairs.items c.in_ok-pairs.ensures c.requires short

pub unreachable-requires : goal.unreachable-requires
unreachable-requires c =
    let short : length c.args.entries.now ≤ 2 ^ 62 = search rules in
    let failed : c.consolidate.result ≡ Err (Weight c.in-Err-Weight.field-0-0) = c.in-Err-Weight.is ∙ ap Err c.in-Err-Weight.field-0-is in
    units_inside c.args.entries.now c.in_ok-pairs.pairs.items c.in_ok-pairs.ensures c.requires short c.in-Err-Weight.field-0-0 (c.consolidate.ensures.outside c.in-Err-Weight.field-0-0 failed)
