use Rattle.std.proofs.Common.{rules, ◌≤◌, ◌^◌, length, ap, ◌∙◌}
use Rattle.std.specs.declared.result.Result.TheVariants.{Err}
use Rattle.sq_value.specs.Order.{row_cmp}
use Rattle.sq_algebra.specs.ZSet.{from_pairs}
use Rattle.sq_zset.specs.Range.{first_outside}
use Rattle.sq_engine.proofs.Netting.{net_in_range}
use Rattle.sq_engine.proofs.admit.net.Goals as goal

pub unreachable-requires : goal.unreachable-requires
unreachable-requires c =
    let short : length c.args.updates.now ≤ 2 ^ 62 = search rules in
    let inside = ap (λ ps. first_outside (from_pairs row_cmp ps)) c.in_ok-pairs_of.ensures.told ∙ net_in_range c.args.table c.args.updates.now short in
    let outside = c.in-Err-Weight.ensures.outside c.in-Err-Weight.field-0-0 (ap Err c.in-Err-Weight.field-0-is) in
    absurd (cc (inside, outside))
