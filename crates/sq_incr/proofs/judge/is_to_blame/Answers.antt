use Rattle.std.proofs.Common.{◌∙◌, sym}
use Rattle.sq_incr.proofs.Judging.{idle_blame, no_place_blame, run_blame}
use Rattle.sq_incr.proofs.Noting.{got_at}
use Rattle.sq_incr.proofs.judge.is_to_blame.Goals as goal

pub returns-then-not-are_run : goal.returns-then-not-are_run
returns-then-not-are_run c states changes first r front noted done =
    c.is_broken.ensures
    ∙ idle_blame c.place-place.ensures.sound r front c.args.lines.now noted c.args.node c.index-lines-node.result (got_at c.args.lines.now c.args.node c.index-lines-node.result c.requires.lines c.index-lines-node.is)
    (done c.index-lines-node.result (got_at c.args.lines.now c.args.node c.index-lines-node.result c.requires.lines c.index-lines-node.is)) (sym c.are_run.ensures ∙ c.if-not-are_run.true)

pub returns-then-not-place : goal.returns-then-not-place
returns-then-not-place c states changes first r front noted done =
    no_place_blame c.place-place.ensures.sound r front c.args.lines.now noted c.args.node c.index-lines-node.result (got_at c.args.lines.now c.args.node c.index-lines-node.result c.requires.lines c.index-lines-node.is)
    (sym c.are_run.ensures ∙ c.if-not-are_run.false) (sym c.place-place.ensures.place ∙ c.if-not-place.true)

pub returns : goal.returns
returns c states changes first r front noted done =
    run_blame c.place-place.ensures.sound r front c.args.lines.now noted c.args.node c.index-lines-node.result (got_at c.args.lines.now c.args.node c.index-lines-node.result c.requires.lines c.index-lines-node.is)
    (sym c.are_run.ensures ∙ c.if-not-are_run.false) c.in_ok-change.change (c.in_ok-change.ensures changes states first r front noted done) c.is_none.result c.is_none.ensures
