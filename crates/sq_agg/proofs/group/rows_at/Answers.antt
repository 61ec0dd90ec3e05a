use Rattle.std.proofs.Common.{◌≡◌, ◌∙◌, ap, Err}
use Rattle.sq_zset.specs.declared.pair.ZFault.TheVariants.{Weight}
use Rattle.sq_agg.proofs.Keys.{group_made, group_never_outside, group_weighs}
use Rattle.sq_agg.proofs.group.rows_at.Goals as goal

pub consolidate-requires : goal.consolidate-requires
consolidate-requires c =
    group_weighs c.args.spec.now c.args.key.now c.args.z.now c.in_ok-pairs.pairs.items (c.in_ok-pairs.ensures.rows ∙ c.requires.rows) c.requires.group

pub unreachable-requires : goal.unreachable-requires
unreachable-requires c =
    let failed : c.consolidate.result ≡ Err (Weight c.in-Err-Weight.field-0-0) = c.in-Err-Weight.is ∙ ap Err c.in-Err-Weight.field-0-is in
    group_never_outside c.args.spec.now c.args.key.now c.args.z.now c.in_ok-pairs.pairs.items (c.in_ok-pairs.ensures.rows ∙ c.requires.rows) c.pairs_at.ensures.in_range
    c.in-Err-Weight.field-0-0 (c.consolidate.ensures.outside c.in-Err-Weight.field-0-0 failed)

pub returns-in-Ok : goal.returns-in-Ok
returns-in-Ok c = c.in-Ok.ensures.ok ∙ group_made c.args.spec.now c.args.key.now c.args.z.now c.in_ok-pairs.pairs.items (c.in_ok-pairs.ensures.rows ∙ c.requires.rows)
