use Rattle.std.proofs.Common.{subst, length}
use Rattle.sq_tests_ticks.specs.Ticks.{EachAt, IsReadyShard, IsTotalAt}
use Rattle.sq_tests_ticks.proofs.Settling.{done_prepares, done_puts, live_after}
use Rattle.sq_tests_ticks.proofs.ticks.settled.Goals as goal

pub prepare_all-requires-clause-all : goal.prepare_all-requires-clause-all
prepare_all-requires-clause-all c = rw c.deref.ensures.value (rw c.len.ensures.len (done_prepares c.len.ensures.sound c.requires.done))

pub commit_all-requires : goal.commit_all-requires
commit_all-requires c =
    done_puts c.len.ensures.sound c.requires.done c.in_ok-ready.ready.items (subst (λ ss. EachAt (IsReadyShard c.args.pieces.now ss) c.in_ok-ready.ready.items (length ss)) c.deref.ensures.value c.in_ok-ready.ensures)

pub returns : goal.returns
returns c =
    live_after c.len.ensures.sound c.requires.done c.in_ok-ready.ready.items (subst (λ ss. EachAt (IsReadyShard c.args.pieces.now ss) c.in_ok-ready.ready.items (length ss)) c.deref.ensures.value c.in_ok-ready.ensures)
    c.args.values.items c.requires.values c.in_ok-totals.totals.items (subst (λ zs. EachAt (IsTotalAt zs) c.in_ok-totals.totals.items (length zs)) c.deref-2.ensures.value c.in_ok-totals.ensures)
    c.commit_all.new.states.items c.commit_all.ensures
