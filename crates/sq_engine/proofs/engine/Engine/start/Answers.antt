use Rattle.std.proofs.Common.{◌≡◌, true, List, length, Err, Some, None, ap, subst, sym, ◌∙◌}
use Rattle.std.proofs.lemmas.Result.{err_from_is_err_and}
use Rattle.sq_engine.specs.Engines.{State, begun, no_tables, views_over}
use Rattle.sq_engine.specs.Ticking.{AreAllPut, CanPutAll}
use Rattle.sq_engine.proofs.Keeping.{begun_ready, begun_views, kept_after, tables_after}
use Rattle.sq_engine.proofs.Readied.{can_put}
use Rattle.sq_engine.proofs.Spent.{start_cost}
use Rattle.sq_circuit.specs.Circuits.{verdict}
use Rattle.sq_circuit.specs.declared.circuit.Part.{Part}
use Rattle.sq_tables.specs.Tables.{tables_in}
use Rattle.sq_engine.proofs.engine.Engine.start.Goals as goal

pub prepare_tick-requires-clause-ready : goal.prepare_tick-requires-clause-ready
prepare_tick-requires-clause-ready g c =
    (begun_ready c.self.invariant (ap (λ (s : State). s.started) c.self.view_is ∙ c.requires) c.deref.result.now c.deref-2.result.now c.deref-3.result.now c.deref.ensures.value c.deref-2.ensures.value (c.deref-3.ensures.value ∙ c.in_ok-changes.ensures ∙ sym (c.self.invariant.empty (ap (λ (s : State). s.started) c.self.view_is ∙ c.requires)))).0

pub commit_all-requires : goal.commit_all-requires
commit_all-requires g c =
    let ready = (begun_ready c.self.invariant (ap (λ (s : State). s.started) c.self.view_is ∙ c.requires) c.deref.result.now c.deref-2.result.now c.deref-3.result.now c.deref.ensures.value c.deref-2.ensures.value (c.deref-3.ensures.value ∙ c.in_ok-changes.ensures ∙ sym (c.self.invariant.empty (ap (λ (s : State). s.started) c.self.view_is ∙ c.requires)))) in
    subst (λ a. CanPutAll a c.in_ok-prepared.prepared.ready.items) c.deref.ensures.value
    (can_put c.in_ok-prepared.ensures.sound ready.0 c.in_ok-prepared.prepared.ready.items c.in_ok-prepared.prepared.totals.items c.in_ok-prepared.prepared.views.items (c.in_ok-prepared.ensures.ok ready.0))

pub returns-in_err-prepared-clause-range : goal.returns-in_err-prepared-clause-range
returns-in_err-prepared-clause-range g c view e =
    let ready = (begun_ready c.self.invariant (ap (λ (s : State). s.started) c.self.view_is ∙ c.requires) c.deref.result.now c.deref-2.result.now c.deref-3.result.now c.deref.ensures.value c.deref-2.ensures.value (c.deref-3.ensures.value ∙ c.in_ok-changes.ensures ∙ sym (c.self.invariant.empty (ap (λ (s : State). s.started) c.self.view_is ∙ c.requires)))) in
    let given = err_from_is_err_and c.from_residual-in_err-prepared.result c.from_residual-in_err-prepared.ensures.1 in
    subst (λ (k : List Part). verdict k (no_tables k) ≡ Some view) (ap (λ (s : State). s.circuit) c.self.view_is)
    (ap (verdict c.self.inside.circuit) (sym (c.self.invariant.empty (ap (λ (s : State). s.started) c.self.view_is ∙ c.requires))) ∙ ap (verdict c.self.inside.circuit) (sym ready.1) ∙ c.in_err-prepared.ensures.range ready.0 view (ap Err (sym given.2 ∙ cc (given.1, e))))

pub returns-in_err-prepared-clause-cost : goal.returns-in_err-prepared-clause-cost
returns-in_err-prepared-clause-cost g c =
    let ready = (begun_ready c.self.invariant (ap (λ (s : State). s.started) c.self.view_is ∙ c.requires) c.deref.result.now c.deref-2.result.now c.deref-3.result.now c.deref.ensures.value c.deref-2.ensures.value (c.deref-3.ensures.value ∙ c.in_ok-changes.ensures ∙ sym (c.self.invariant.empty (ap (λ (s : State). s.started) c.self.view_is ∙ c.requires)))) in
    start_cost c.self.inside.circuit c.args.self.now.circuit c.deref-3.result.now c.args.steps.now.count c.prepare_tick.new.steps.count (ap (λ (s : State). s.circuit) c.self.view_is) (c.deref-3.ensures.value ∙ c.in_ok-changes.ensures) (c.in_err-prepared.ensures.cost ready.0)

pub invariant_of-self : goal.invariant_of-self
invariant_of-self g c =
    let ready = (begun_ready c.self.invariant (ap (λ (s : State). s.started) c.self.view_is ∙ c.requires) c.deref.result.now c.deref-2.result.now c.deref-3.result.now c.deref.ensures.value c.deref-2.ensures.value (c.deref-3.ensures.value ∙ c.in_ok-changes.ensures ∙ sym (c.self.invariant.empty (ap (λ (s : State). s.started) c.self.view_is ∙ c.requires)))) in
    kept_after c.in_ok-prepared.ensures.sound ready.0 c.in_ok-prepared.prepared.ready.items c.in_ok-prepared.prepared.totals.items c.in_ok-prepared.prepared.views.items (c.in_ok-prepared.ensures.ok ready.0) c.commit_all.new.states.items
    (subst (λ a. AreAllPut a c.in_ok-prepared.prepared.ready.items c.commit_all.new.states.items) (sym c.deref.ensures.value) c.commit_all.ensures) c.self.invariant.nodes

pub returns-clause-engine : goal.returns-clause-engine
returns-clause-engine g c =
    let ready = (begun_ready c.self.invariant (ap (λ (s : State). s.started) c.self.view_is ∙ c.requires) c.deref.result.now c.deref-2.result.now c.deref-3.result.now c.deref.ensures.value c.deref-2.ensures.value (c.deref-3.ensures.value ∙ c.in_ok-changes.ensures ∙ sym (c.self.invariant.empty (ap (λ (s : State). s.started) c.self.view_is ∙ c.requires)))) in
    let now : tables_in c.self.inside.circuit c.commit_all.new.states.items ≡ no_tables c.self.inside.circuit =
    tables_after c.in_ok-prepared.ensures.sound ready.0 c.in_ok-prepared.prepared.ready.items c.in_ok-prepared.prepared.totals.items c.in_ok-prepared.prepared.views.items (c.in_ok-prepared.ensures.ok ready.0) c.commit_all.new.states.items
    (subst (λ a. AreAllPut a c.in_ok-prepared.prepared.ready.items c.commit_all.new.states.items) (sym c.deref.ensures.value) c.commit_all.ensures) ∙ ready.1 ∙ c.self.invariant.empty (ap (λ (s : State). s.started) c.self.view_is ∙ c.requires) in
    subst (λ (s : State). ◌≡◌ {A = State} (record { circuit = c.self.inside.circuit; started = true; tables = tables_in c.self.inside.circuit c.commit_all.new.states.items; shards = length c.commit_all.new.states.items }) (begun s)) c.self.view_is
    (λ i. record { circuit = c.self.inside.circuit; started = true; tables = now i; shards = c.commit_all.ensures.count i })

pub returns-clause-ok : goal.returns-clause-ok
returns-clause-ok g c =
    let ready = (begun_ready c.self.invariant (ap (λ (s : State). s.started) c.self.view_is ∙ c.requires) c.deref.result.now c.deref-2.result.now c.deref-3.result.now c.deref.ensures.value c.deref-2.ensures.value (c.deref-3.ensures.value ∙ c.in_ok-changes.ensures ∙ sym (c.self.invariant.empty (ap (λ (s : State). s.started) c.self.view_is ∙ c.requires)))) in
    let made = (c.in_ok-prepared.ensures.ok ready.0) in
    made.views_are ∙ begun_views c.self.inside.circuit ready.0 (tables_in c.self.inside.circuit c.self.inside.states.items) ready.1 ∙ ap (views_over c.self.inside.circuit) (c.self.invariant.empty (ap (λ (s : State). s.started) c.self.view_is ∙ c.requires)) ∙ ap (λ (k : List Part). views_over k (no_tables k)) (ap (λ (s : State). s.circuit) c.self.view_is)

pub returns-clause-in_range : goal.returns-clause-in_range
returns-clause-in_range g c =
    let ready = (begun_ready c.self.invariant (ap (λ (s : State). s.started) c.self.view_is ∙ c.requires) c.deref.result.now c.deref-2.result.now c.deref-3.result.now c.deref.ensures.value c.deref-2.ensures.value (c.deref-3.ensures.value ∙ c.in_ok-changes.ensures ∙ sym (c.self.invariant.empty (ap (λ (s : State). s.started) c.self.view_is ∙ c.requires)))) in
    let made = (c.in_ok-prepared.ensures.ok ready.0) in
    subst (λ (k : List Part). verdict k (no_tables k) ≡ None) (ap (λ (s : State). s.circuit) c.self.view_is) (ap (verdict c.self.inside.circuit) (sym (c.self.invariant.empty (ap (λ (s : State). s.started) c.self.view_is ∙ c.requires))) ∙ ap (verdict c.self.inside.circuit) (sym ready.1) ∙ made.played.clear)

pub returns-clause-cost : goal.returns-clause-cost
returns-clause-cost g c =
    let ready = (begun_ready c.self.invariant (ap (λ (s : State). s.started) c.self.view_is ∙ c.requires) c.deref.result.now c.deref-2.result.now c.deref-3.result.now c.deref.ensures.value c.deref-2.ensures.value (c.deref-3.ensures.value ∙ c.in_ok-changes.ensures ∙ sym (c.self.invariant.empty (ap (λ (s : State). s.started) c.self.view_is ∙ c.requires)))) in
    start_cost c.self.inside.circuit c.args.self.now.circuit c.deref-3.result.now c.args.steps.now.count c.prepare_tick.new.steps.count (ap (λ (s : State). s.circuit) c.self.view_is) (c.deref-3.ensures.value ∙ c.in_ok-changes.ensures) (c.in_ok-prepared.ensures.cost ready.0)
