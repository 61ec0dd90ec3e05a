use Rattle.std.proofs.Common.{◌≡◌, subst, sym, true}
use Rattle.std.specs.List.{list_all}
use Rattle.sq_incr.specs.Slots.{AreNoted, is_done}
use Rattle.sq_incr.proofs.Answering.{all_run_so, is_played, is_refused}
use Rattle.sq_incr.proofs.Carrying.{all_small}
use Rattle.sq_incr.proofs.whole.blamed.Goals as goal

pub least_faulty-requires-clause-small : goal.least_faulty-requires-clause-small
least_faulty-requires-clause-small c = all_small c.len.ensures.sound c.requires.judge.ready

pub invariant_of-result : goal.invariant_of-result
invariant_of-result c =
    let b = c.requires.judge in
    all_run_so c.len.ensures.sound b c.requires.done c.in_ok-view.view
    (c.in_ok-view.ensures b.states b.changes b.first b.ready b.order (subst (AreNoted b.ready b.order) (sym c.deref.ensures.value) b.noted) (subst (λ ls. list_all (list_all is_done) ls ≡ true) (sym c.deref.ensures.value) c.requires.done)) c.in-None.is

pub returns-in-Some : goal.returns-in-Some
returns-in-Some c b =
    is_refused c.len.ensures.sound b c.requires.done c.in_ok-view.view c.in-Some.view
    (c.in_ok-view.ensures b.states b.changes b.first b.ready b.order (subst (AreNoted b.ready b.order) (sym c.deref.ensures.value) b.noted) (subst (λ ls. list_all (list_all is_done) ls ≡ true) (sym c.deref.ensures.value) c.requires.done)) c.in-Some.is

pub returns-in-None : goal.returns-in-None
returns-in-None c b =
    is_played c.len.ensures.sound b c.requires.done c.in_ok-view.view
    (c.in_ok-view.ensures b.states b.changes b.first b.ready b.order (subst (AreNoted b.ready b.order) (sym c.deref.ensures.value) b.noted) (subst (λ ls. list_all (list_all is_done) ls ≡ true) (sym c.deref.ensures.value) c.requires.done)) c.in-None.is
