use Rattle.std.proofs.Common.{rules, ◌≡◌, ◌∙◌, ◌≤◌, ◌^◌, length, ap, Err}
use Rattle.sq_zset.specs.declared.pair.ZFault.TheVariants.{Weight}
use Rattle.sq_zset.proofs.Counting.{few_weigh, never_outside, of_counted}
use Rattle.sq_zset.proofs.zset.ZSet.of_rows.Goals as goal

pub consolidate-requires : goal.consolidate-requires
consolidate-requires c =
    let few : length c.args.rows.items ≤ 2 ^ 62 = search rules in
    few_weigh c.in_ok-pairs.pairs.items c.args.rows.items c.in_ok-pairs.ensures few

pub unreachable-requires : goal.unreachable-requires
unreachable-requires c =
    let failed : c.consolidate.result ≡ Err (Weight c.in-Err-Weight.field-0-0) = c.in-Err-Weight.is ∙ ap Err c.in-Err-Weight.field-0-is in
    let few : length c.args.rows.items ≤ 2 ^ 62 = search rules in
    never_outside c.args.rows.items c.in_ok-pairs.pairs.items c.in-Err-Weight.field-0-0 c.in_ok-pairs.ensures few (c.consolidate.ensures.outside c.in-Err-Weight.field-0-0 failed)

pub returns-in-Ok-clause-ok : goal.returns-in-Ok-clause-ok
returns-in-Ok-clause-ok c = c.in-Ok.ensures.ok ∙ of_counted c.args.rows.items c.in_ok-pairs.pairs.items c.in_ok-pairs.ensures
