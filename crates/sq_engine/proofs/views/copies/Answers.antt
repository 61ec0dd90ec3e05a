use Rattle.std.proofs.Common.{map, ap, ◌∙◌, arith}
use Rattle.sq_incr.specs.Slots.{change_in}
use Rattle.sq_incr.proofs.Noting.{one_more_mapped, there_is}
use Rattle.sq_engine.specs.Ticking.{line_at}
use Rattle.sq_engine.proofs.Totalling.{take_all, the_line}
use Rattle.sq_engine.proofs.views.copies.Goals as goal

pub loop-shard-preserved : goal.loop-shard-preserved
loop-shard-preserved c =
    let at = the_line c.args.pieces.now c.args.node c.requires.node in
    let wide = c.requires.wide c.args.node (line_at c.args.pieces.now c.args.node) at in
    let inside = c.loop-shard-test.true in
    let slot = there_is (line_at c.args.pieces.now c.args.node) c.loop-shard.shard (omega (arith, wide, inside)) in
    one_more_mapped change_in (line_at c.args.pieces.now c.args.node) c.loop-shard.shard slot.0 _ c.loop-shard.zs.items c.push.new.self.items slot.1
    (c.in_ok-copy_of.ensures (line_at c.args.pieces.now c.args.node) at slot.0 slot.1) c.loop-shard.invariant c.in_ok-push.ensures.items

pub returns : goal.returns
returns c =
    let at = the_line c.args.pieces.now c.args.node c.requires.node in
    let wide = c.requires.wide c.args.node (line_at c.args.pieces.now c.args.node) at in
    let past = c.loop-shard-test.false in
    c.loop-shard.invariant ∙ ap (map change_in) (take_all (line_at c.args.pieces.now c.args.node) c.loop-shard.shard (omega (arith, wide, past)))
