use Rattle.sq_sample.proofs.Writing.{ticks_told}
use Rattle.sq_sample.proofs.lines.push_ticks.Goals as goal

pub returns : goal.returns
returns c =
    ticks_told c.args.seed c.args.ticks c.args.out.now.items _ _ _ _ c.in_ok-push_number.ensures c.in_ok-push_number-2.ensures c.in_ok-push_number-3.ensures
    c.in_ok-extend_from_slice.ensures.items
