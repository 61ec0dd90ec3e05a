use Rattle.std.proofs.Common.{◌≡◌, ◌∙◌, ap, Err}
use Rattle.sq_algebra.specs.ZSet.{from_pairs}
use Rattle.sq_value.specs.Order.{row_cmp}
use Rattle.sq_zset.specs.declared.pair.ZFault.TheVariants.{Weight}
use Rattle.sq_zset.specs.Pairs.{weighted_rows}
use Rattle.sq_distinct.specs.Stepping.{held_weight}
use Rattle.sq_distinct.proofs.Rising.{never_outside, steps_are_rises}
use Rattle.sq_distinct.proofs.step.distinct_step.Goals as goal

pub consolidate-requires : goal.consolidate-requires
consolidate-requires g c = c.in_ok-pairs.ensures.bounded

pub unreachable-requires : goal.unreachable-requires
unreachable-requires g c =
    let failed : c.consolidate.result ≡ Err (Weight c.in-Err-Weight.field-0-0) = c.in-Err-Weight.is ∙ ap Err c.in-Err-Weight.field-0-is in
    never_outside (held_weight c.args.old.now) c.args.d.now (weighted_rows c.in_ok-pairs.pairs.items) c.in-Err-Weight.field-0-0 c.in_ok-pairs.ensures.ok (c.consolidate.ensures.outside c.in-Err-Weight.field-0-0 failed)

pub returns-in-Ok-clause-ok : goal.returns-in-Ok-clause-ok
returns-in-Ok-clause-ok g c z holds = c.in-Ok.ensures.ok ∙ ap (from_pairs row_cmp) c.in_ok-pairs.ensures.ok ∙ steps_are_rises c.args.old.now z c.args.d.now holds
