use Rattle.std.proofs.Common.{arith}
use Rattle.sq_sample.proofs.Writing.{inside, text_told}
use Rattle.sq_sample.proofs.lines.lines.Goals as goal

pub push_view-requires : goal.push_view-requires
push_view-requires c = inside c.args.seed c.args.ticks 0 c.args.numbers.now c.requires (omega arith)

pub push_view-requires-2 : goal.push_view-requires-2
push_view-requires-2 c = inside c.args.seed c.args.ticks 1 c.args.numbers.now c.requires (omega arith)

pub push_view-requires-3 : goal.push_view-requires-3
push_view-requires-3 c = inside c.args.seed c.args.ticks 2 c.args.numbers.now c.requires (omega arith)

pub push_view-requires-4 : goal.push_view-requires-4
push_view-requires-4 c = inside c.args.seed c.args.ticks 3 c.args.numbers.now c.requires (omega arith)

pub push_view-requires-5 : goal.push_view-requires-5
push_view-requires-5 c = inside c.args.seed c.args.ticks 4 c.args.numbers.now c.requires (omega arith)

pub returns : goal.returns
returns c =
    text_told c.args.seed c.args.ticks c.args.numbers.now c.requires c.new-out.result.items _ _ _ _ _ _ c.new-out.ensures.items c.in_ok-push_ticks.ensures
    c.in_ok-push_view.ensures c.in_ok-push_view-2.ensures c.in_ok-push_view-3.ensures c.in_ok-push_view-4.ensures c.in_ok-push_view-5.ensures
