use Rattle.std.proofs.Common.{rules, ◌+◌, ◌+ℤ◌, SFits, to_z, to_z-of_z, subst, sym, ap, ◌∙◌, arith}
use Rattle.std.specs.Int.{int_wrap, w128}
use Rattle.sq_incr.proofs.Noting.{there_is}
use Rattle.sq_engine.proofs.Totalling.{IsFront, front_end, front_start, front_turn}
use Rattle.sq_engine.proofs.totals.total_after.Goals as goal

pub loop-shard-init : goal.loop-shard-init
loop-shard-init c =
    let fits : SFits w128 c.total_at-sum.result = search rules in
    subst (IsFront c.args.totals.now c.args.pieces.now c.args.node 0) (sym (to_z-of_z fits)) (front_start c.args.totals.now c.args.pieces.now c.args.node c.total_at-sum.result fits c.total_at-sum.ensures)

pub loop-shard-preserved : goal.loop-shard-preserved
loop-shard-preserved c =
    let fits : SFits w128 c.wrapped_sum-sum.result = search rules in
    let more_fits : SFits w128 c.piece_total.result = search rules in
    subst (IsFront c.args.totals.now c.args.pieces.now c.args.node (c.loop-shard.shard + 1)) (sym (to_z-of_z fits))
    (front_turn c.args.totals.now c.args.pieces.now c.args.node c.loop-shard.shard _ c.piece_total.result c.wrapped_sum-sum.result c.loop-shard.invariant
    (λ line e.
    let wide = c.requires.wide c.args.node line e in
    let inside = c.loop-shard-test.true in
    let slot = there_is line c.loop-shard.shard (omega (arith, wide, inside)) in
    (slot.0, slot.1, c.piece_total.ensures line e slot.0 slot.1))
    (c.wrapped_sum-sum.ensures ∙ ap (λ m. int_wrap w128 (to_z w128 c.loop-shard.sum-bits +ℤ m)) (to_z-of_z more_fits)))

pub returns : goal.returns
returns c =
    let line = there_is c.args.pieces.now c.args.node c.requires.node in
    let past = c.loop-shard-test.false in
    let wide = c.requires.wide c.args.node line.0 line.1 in
    front_end c.args.totals.now c.args.pieces.now c.args.node c.loop-shard.shard _ c.loop-shard.invariant line.0 line.1 (omega (arith, past, wide))
