use Rattle.std.proofs.Common.{rules, ◌≡◌, ℕ, ◌<◌, List, All, Ok, Some, map, length, sym, ap, ◌∙◌, subst, arith}
use Rattle.std.proofs.lemmas.List.{length-map, map-append}
use Rattle.sq_claims.specs.Claims.{Claimed}
use Rattle.sq_workers.specs.declared.crew.Yield.{Yield}
use Rattle.sq_workers.specs.Work.{filled}
use Rattle.sq_workers.proofs.Slots.{zip_length, places_of, filled_length, all_some, answered_all}
use Rattle.sq_workers.proofs.Yields.{IsNext, done_all, lists_of, next_below, next_zip, next_parts, next_lists, next_settled, placed_back, placed_full}
use Rattle.sq_workers.proofs.placed.placed.Goals as goal

pub fill-requires-clause-places : goal.fill-requires-clause-places
fill-requires-clause-places g c =
    let i = c.loop-one.invariant in
    let n = g.J.Job.tasks c.args.job.now in
    let ended : All (λ (y : Yield _). y.ended ≡ Ok tt) c.args.yields.items = subst (All (λ (y : Yield _). y.ended ≡ Ok tt)) c.deref.ensures.value c.in_ok-all_ended.ensures in
    let next : IsNext (g.J.Job.answers c.args.job.now) n c.args.yields.items c.loop-one.yielded c.loop-one.one-iterator.rest.items c.next.new.self.rest.items c.in-Some.one =
    record { claimed = c.requires.claimed ended; answers = c.requires.answers; ended = ended; parts = i.0; step = c.in-Some.ensures.steps.0 } in
    subst (All (λ k. k < length c.deref_mut.result.now)) (sym c.deref-in-loop-one.ensures.value)
    (places_of n (length c.deref_mut.result.now) c.in-Some.one.claims.items (next_below _ n _ _ _ _ _ next) (ap length c.deref_mut.ensures.value ∙ i.1))

pub fill-requires-clause-each : goal.fill-requires-clause-each
fill-requires-clause-each g c =
    let i = c.loop-one.invariant in
    let n = g.J.Job.tasks c.args.job.now in
    let ok = g.J.Job.answers c.args.job.now in
    let ended : All (λ (y : Yield _). y.ended ≡ Ok tt) c.args.yields.items = subst (All (λ (y : Yield _). y.ended ≡ Ok tt)) c.deref.ensures.value c.in_ok-all_ended.ensures in
    let next : IsNext ok n c.args.yields.items c.loop-one.yielded c.loop-one.one-iterator.rest.items c.next.new.self.rest.items c.in-Some.one =
    record { claimed = c.requires.claimed ended; answers = c.requires.answers; ended = ended; parts = i.0; step = c.in-Some.ensures.steps.0 } in
    zip_length ok c.in-Some.one.claims.items c.in-Some.one.answers.items (next_zip ok n _ _ _ _ _ next) ∙ ap length (sym c.deref-in-loop-one.ensures.value)

pub loop-one-preserved : goal.loop-one-preserved
loop-one-preserved g c =
    let i = c.loop-one.invariant in
    let n = g.J.Job.tasks c.args.job.now in
    let ok = g.J.Job.answers c.args.job.now in
    let slots = c.loop-one.slots.items in
    let one = c.in-Some.one in
    let ended : All (λ (y : Yield _). y.ended ≡ Ok tt) c.args.yields.items = subst (All (λ (y : Yield _). y.ended ≡ Ok tt)) c.deref.ensures.value c.in_ok-all_ended.ensures in
    let next : IsNext ok n c.args.yields.items c.loop-one.yielded c.loop-one.one-iterator.rest.items c.next.new.self.rest.items one =
    record { claimed = c.requires.claimed ended; answers = c.requires.answers; ended = ended; parts = i.0; step = c.in-Some.ensures.steps.0 } in
    let told : c.fill.new.slots ≡ filled slots one.claims.items one.answers.items =
    c.fill.ensures ∙ (ap (λ s. filled s c.deref-in-loop-one.result.now one.answers.items) c.deref_mut.ensures.value ∙ ap (λ (ns : List ℕ). filled slots ns one.answers.items) c.deref-in-loop-one.ensures.value) in
    let back = placed_back c.loop-one.slots.len slots c.fill.new.slots one.claims.items one.answers.items (search rules) told in (
      next_parts ok n _ _ _ _ one next,
      ap length back ∙ (filled_length slots one.claims.items one.answers.items ∙ i.1),
      next_lists _ _ c.loop-one.yielded one (ap (map (λ v. v.items)) c.in_ok-push.ensures.items ∙ map-append (λ v. v.items) c.loop-one.claims.items _) i.2,
      next_settled ok n _ _ _ _ one slots _ next i.1 i.3 back,
    )

pub taken-requires : goal.taken-requires
taken-requires g c =
    let i = c.loop-one.invariant in
    let n = g.J.Job.tasks c.args.job.now in
    let ok = g.J.Job.answers c.args.job.now in
    let ended : All (λ (y : Yield _). y.ended ≡ Ok tt) c.args.yields.items = subst (All (λ (y : Yield _). y.ended ≡ Ok tt)) c.deref.ensures.value c.in_ok-all_ended.ensures in
    let whole = done_all c.loop-one.yielded c.loop-one.one-iterator.rest.items c.args.yields.items i.0 (search rules) in
    all_some ok c.loop-one.slots.items (λ k lt. let long = i.1 in placed_full ok n c.args.yields.items c.loop-one.yielded c.loop-one.slots.items (c.requires.claimed ended) whole i.3 k (omega (arith, lt, long)))

pub returns-clause-results : goal.returns-clause-results
returns-clause-results g c =
    let i = c.loop-one.invariant in
    let n = g.J.Job.tasks c.args.job.now in
    let ok = g.J.Job.answers c.args.job.now in
    let ended : All (λ (y : Yield _). y.ended ≡ Ok tt) c.args.yields.items = subst (All (λ (y : Yield _). y.ended ≡ Ok tt)) c.deref.ensures.value c.in_ok-all_ended.ensures in
    let whole = done_all c.loop-one.yielded c.loop-one.one-iterator.rest.items c.args.yields.items i.0 (search rules) in
    let items : map Some c.in_ok-results.results.items ≡ c.loop-one.slots.items = search rules in
    answered_all ok n c.loop-one.slots.items c.in_ok-results.results.items i.1 items (placed_full ok n c.args.yields.items c.loop-one.yielded c.loop-one.slots.items (c.requires.claimed ended) whole i.3)

pub returns-clause-claimed : goal.returns-clause-claimed
returns-clause-claimed g c =
    let i = c.loop-one.invariant in
    let ended : All (λ (y : Yield _). y.ended ≡ Ok tt) c.args.yields.items = subst (All (λ (y : Yield _). y.ended ≡ Ok tt)) c.deref.ensures.value c.in_ok-all_ended.ensures in
    let whole = done_all c.loop-one.yielded c.loop-one.one-iterator.rest.items c.args.yields.items i.0 (search rules) in
    subst (Claimed (g.J.Job.tasks c.args.job.now)) (sym (i.2 ∙ ap lists_of whole)) (c.requires.claimed ended)

pub returns-clause-count : goal.returns-clause-count
returns-clause-count g c =
    let i = c.loop-one.invariant in
    let whole = done_all c.loop-one.yielded c.loop-one.one-iterator.rest.items c.args.yields.items i.0 (search rules) in
    sym (length-map c.loop-one.claims.items (λ v. v.items)) ∙ (ap length (i.2 ∙ ap lists_of whole) ∙ length-map c.args.yields.items (λ y. y.claims.items))
