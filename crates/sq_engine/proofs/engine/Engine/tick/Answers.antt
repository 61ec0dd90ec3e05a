use Rattle.std.proofs.Common.{◌≡◌, ℕ, ◌+◌, ◌≤◌, true, false, List, length, Err, Some, None, ap, ap₂, subst, sym, ◌∙◌}
use Rattle.std.proofs.lemmas.Result.{err_from_is_err_and}
use Rattle.sq_circuit.specs.Along.{each_below}
use Rattle.sq_circuit.specs.Circuits.{table_at, verdict}
use Rattle.sq_circuit.specs.Costs.{cost}
use Rattle.sq_circuit.specs.Invariant.{IsGood}
use Rattle.sq_circuit.specs.Nodes.{Rows}
use Rattle.sq_engine.specs.Engines.{IsKept, State, moved, views_between, with_changes}
use Rattle.sq_engine.specs.Ticking.{AreAllPut, CanPutAll}
use Rattle.sq_engine.proofs.Keeping.{kept_after, later_ready, moved_views, tables_after}
use Rattle.sq_engine.proofs.Readied.{can_put}
use Rattle.sq_engine.proofs.Spent.{later_cost}
use Rattle.sq_tables.specs.Tables.{tables_in}
use Rattle.sq_engine.proofs.engine.Engine.tick.Goals as goal

pub prepare_tick-requires-clause-ready : goal.prepare_tick-requires-clause-ready
prepare_tick-requires-clause-ready g c =
    (later_ready c.self.invariant (ap (λ (s : State). s.started) c.self.view_is ∙ c.requires.started) c.args.delta (subst (λ (s : State). IsGood s.circuit (with_changes s.tables c.args.delta)) (sym c.self.view_is) c.requires.good) c.deref.result.now c.deref-2.result.now c.deref-3.result.now c.deref.ensures.value c.deref-2.ensures.value (c.deref-3.ensures.value ∙ c.in_ok-changes.ensures ∙ ap₂ (λ (ds : List Rows) (n : ℕ). each_below (λ t. table_at ds t) n) c.delta.view_is (c.table_count.ensures.count ∙ sym c.self.invariant.good.count))).0

pub returns-in_err-prepared-clause-range : goal.returns-in_err-prepared-clause-range
returns-in_err-prepared-clause-range g c view e =
    let ready = (later_ready c.self.invariant (ap (λ (s : State). s.started) c.self.view_is ∙ c.requires.started) c.args.delta (subst (λ (s : State). IsGood s.circuit (with_changes s.tables c.args.delta)) (sym c.self.view_is) c.requires.good) c.deref.result.now c.deref-2.result.now c.deref-3.result.now c.deref.ensures.value c.deref-2.ensures.value (c.deref-3.ensures.value ∙ c.in_ok-changes.ensures ∙ ap₂ (λ (ds : List Rows) (n : ℕ). each_below (λ t. table_at ds t) n) c.delta.view_is (c.table_count.ensures.count ∙ sym c.self.invariant.good.count))) in
    let given = err_from_is_err_and c.from_residual-in_err-prepared.result c.from_residual-in_err-prepared.ensures.1 in
    subst (λ (s : State). verdict s.circuit (with_changes s.tables c.args.delta) ≡ Some view) c.self.view_is
    (ap (verdict c.self.inside.circuit) (sym ready.2) ∙ c.in_err-prepared.ensures.range ready.0 view (ap Err (sym given.2 ∙ cc (given.1, e))))

pub returns-in_err-prepared-clause-cost : goal.returns-in_err-prepared-clause-cost
returns-in_err-prepared-clause-cost g c =
    let ready = (later_ready c.self.invariant (ap (λ (s : State). s.started) c.self.view_is ∙ c.requires.started) c.args.delta (subst (λ (s : State). IsGood s.circuit (with_changes s.tables c.args.delta)) (sym c.self.view_is) c.requires.good) c.deref.result.now c.deref-2.result.now c.deref-3.result.now c.deref.ensures.value c.deref-2.ensures.value (c.deref-3.ensures.value ∙ c.in_ok-changes.ensures ∙ ap₂ (λ (ds : List Rows) (n : ℕ). each_below (λ t. table_at ds t) n) c.delta.view_is (c.table_count.ensures.count ∙ sym c.self.invariant.good.count))) in
    subst (λ (s : State). c.prepare_tick.new.steps.count ≤ c.args.steps.now.count + cost false s.circuit s.tables c.args.delta) c.self.view_is
    (later_cost c.self.inside.circuit (tables_in c.self.inside.circuit c.self.inside.states.items) c.args.delta c.deref-3.result.now c.args.steps.now.count c.prepare_tick.new.steps.count (c.deref-3.ensures.value ∙ c.in_ok-changes.ensures ∙ ap₂ (λ (ds : List Rows) (n : ℕ). each_below (λ t. table_at ds t) n) c.delta.view_is (c.table_count.ensures.count ∙ sym c.self.invariant.good.count))
    (subst (λ (ts : List Rows). c.prepare_tick.new.steps.count ≤ c.args.steps.now.count + cost false c.self.inside.circuit ts c.deref-3.result.now) ready.1 (c.in_err-prepared.ensures.cost ready.0)))

pub commit_all-requires : goal.commit_all-requires
commit_all-requires g c =
    let ready = (later_ready c.self.invariant (ap (λ (s : State). s.started) c.self.view_is ∙ c.requires.started) c.args.delta (subst (λ (s : State). IsGood s.circuit (with_changes s.tables c.args.delta)) (sym c.self.view_is) c.requires.good) c.deref.result.now c.deref-2.result.now c.deref-3.result.now c.deref.ensures.value c.deref-2.ensures.value (c.deref-3.ensures.value ∙ c.in_ok-changes.ensures ∙ ap₂ (λ (ds : List Rows) (n : ℕ). each_below (λ t. table_at ds t) n) c.delta.view_is (c.table_count.ensures.count ∙ sym c.self.invariant.good.count))) in
    subst (λ a. CanPutAll a c.in_ok-prepared.prepared.ready.items) c.deref.ensures.value
    (can_put c.in_ok-prepared.ensures.sound ready.0 c.in_ok-prepared.prepared.ready.items c.in_ok-prepared.prepared.totals.items c.in_ok-prepared.prepared.views.items (c.in_ok-prepared.ensures.ok ready.0))

pub invariant_of-self : goal.invariant_of-self
invariant_of-self g c =
    let ready = (later_ready c.self.invariant (ap (λ (s : State). s.started) c.self.view_is ∙ c.requires.started) c.args.delta (subst (λ (s : State). IsGood s.circuit (with_changes s.tables c.args.delta)) (sym c.self.view_is) c.requires.good) c.deref.result.now c.deref-2.result.now c.deref-3.result.now c.deref.ensures.value c.deref-2.ensures.value (c.deref-3.ensures.value ∙ c.in_ok-changes.ensures ∙ ap₂ (λ (ds : List Rows) (n : ℕ). each_below (λ t. table_at ds t) n) c.delta.view_is (c.table_count.ensures.count ∙ sym c.self.invariant.good.count))) in
    subst (λ b. IsKept (record { circuit = c.self.inside.circuit; started = b; tables = tables_in c.self.inside.circuit c.commit_all.new.states.items; shards = length c.commit_all.new.states.items }) c.commit_all.new.states.items c.in_ok-prepared.prepared.totals.items) (sym (ap (λ (s : State). s.started) c.self.view_is ∙ c.requires.started))
    (kept_after c.in_ok-prepared.ensures.sound ready.0 c.in_ok-prepared.prepared.ready.items c.in_ok-prepared.prepared.totals.items c.in_ok-prepared.prepared.views.items (c.in_ok-prepared.ensures.ok ready.0) c.commit_all.new.states.items
    (subst (λ a. AreAllPut a c.in_ok-prepared.prepared.ready.items c.commit_all.new.states.items) (sym c.deref.ensures.value) c.commit_all.ensures) c.self.invariant.nodes)

pub returns-clause-ok : goal.returns-clause-ok
returns-clause-ok g c =
    let ready = (later_ready c.self.invariant (ap (λ (s : State). s.started) c.self.view_is ∙ c.requires.started) c.args.delta (subst (λ (s : State). IsGood s.circuit (with_changes s.tables c.args.delta)) (sym c.self.view_is) c.requires.good) c.deref.result.now c.deref-2.result.now c.deref-3.result.now c.deref.ensures.value c.deref-2.ensures.value (c.deref-3.ensures.value ∙ c.in_ok-changes.ensures ∙ ap₂ (λ (ds : List Rows) (n : ℕ). each_below (λ t. table_at ds t) n) c.delta.view_is (c.table_count.ensures.count ∙ sym c.self.invariant.good.count))) in
    let made = (c.in_ok-prepared.ensures.ok ready.0) in
    made.views_are ∙ moved_views c.self.inside.circuit ready.0 (tables_in c.self.inside.circuit c.self.inside.states.items) (with_changes (tables_in c.self.inside.circuit c.self.inside.states.items) c.args.delta) ready.1 ready.2
    ∙ ap (λ (s : State). views_between s.circuit s.tables (with_changes s.tables c.args.delta)) c.self.view_is

pub returns-clause-engine : goal.returns-clause-engine
returns-clause-engine g c =
    let ready = (later_ready c.self.invariant (ap (λ (s : State). s.started) c.self.view_is ∙ c.requires.started) c.args.delta (subst (λ (s : State). IsGood s.circuit (with_changes s.tables c.args.delta)) (sym c.self.view_is) c.requires.good) c.deref.result.now c.deref-2.result.now c.deref-3.result.now c.deref.ensures.value c.deref-2.ensures.value (c.deref-3.ensures.value ∙ c.in_ok-changes.ensures ∙ ap₂ (λ (ds : List Rows) (n : ℕ). each_below (λ t. table_at ds t) n) c.delta.view_is (c.table_count.ensures.count ∙ sym c.self.invariant.good.count))) in
    let started : c.self.inside.started ≡ true = (ap (λ (s : State). s.started) c.self.view_is ∙ c.requires.started) in
    let now : tables_in c.self.inside.circuit c.commit_all.new.states.items ≡ with_changes (tables_in c.self.inside.circuit c.self.inside.states.items) c.args.delta =
    tables_after c.in_ok-prepared.ensures.sound ready.0 c.in_ok-prepared.prepared.ready.items c.in_ok-prepared.prepared.totals.items c.in_ok-prepared.prepared.views.items (c.in_ok-prepared.ensures.ok ready.0) c.commit_all.new.states.items
    (subst (λ a. AreAllPut a c.in_ok-prepared.prepared.ready.items c.commit_all.new.states.items) (sym c.deref.ensures.value) c.commit_all.ensures) ∙ ready.2 in
    subst (λ (s : State). ◌≡◌ {A = State} (record { circuit = c.self.inside.circuit; started = c.self.inside.started; tables = tables_in c.self.inside.circuit c.commit_all.new.states.items; shards = length c.commit_all.new.states.items }) (moved s c.args.delta)) c.self.view_is
    (λ i. record { circuit = c.self.inside.circuit; started = started i; tables = now i; shards = c.commit_all.ensures.count i })

pub returns-clause-in_range : goal.returns-clause-in_range
returns-clause-in_range g c =
    let ready = (later_ready c.self.invariant (ap (λ (s : State). s.started) c.self.view_is ∙ c.requires.started) c.args.delta (subst (λ (s : State). IsGood s.circuit (with_changes s.tables c.args.delta)) (sym c.self.view_is) c.requires.good) c.deref.result.now c.deref-2.result.now c.deref-3.result.now c.deref.ensures.value c.deref-2.ensures.value (c.deref-3.ensures.value ∙ c.in_ok-changes.ensures ∙ ap₂ (λ (ds : List Rows) (n : ℕ). each_below (λ t. table_at ds t) n) c.delta.view_is (c.table_count.ensures.count ∙ sym c.self.invariant.good.count))) in
    let made = (c.in_ok-prepared.ensures.ok ready.0) in
    subst (λ (s : State). verdict s.circuit (with_changes s.tables c.args.delta) ≡ None) c.self.view_is (ap (verdict c.self.inside.circuit) (sym ready.2) ∙ made.played.clear)

pub returns-clause-cost : goal.returns-clause-cost
returns-clause-cost g c =
    let ready = (later_ready c.self.invariant (ap (λ (s : State). s.started) c.self.view_is ∙ c.requires.started) c.args.delta (subst (λ (s : State). IsGood s.circuit (with_changes s.tables c.args.delta)) (sym c.self.view_is) c.requires.good) c.deref.result.now c.deref-2.result.now c.deref-3.result.now c.deref.ensures.value c.deref-2.ensures.value (c.deref-3.ensures.value ∙ c.in_ok-changes.ensures ∙ ap₂ (λ (ds : List Rows) (n : ℕ). each_below (λ t. table_at ds t) n) c.delta.view_is (c.table_count.ensures.count ∙ sym c.self.invariant.good.count))) in
    subst (λ (s : State). c.prepare_tick.new.steps.count ≤ c.args.steps.now.count + cost false s.circuit s.tables c.args.delta) c.self.view_is
    (later_cost c.self.inside.circuit (tables_in c.self.inside.circuit c.self.inside.states.items) c.args.delta c.deref-3.result.now c.args.steps.now.count c.prepare_tick.new.steps.count (c.deref-3.ensures.value ∙ c.in_ok-changes.ensures ∙ ap₂ (λ (ds : List Rows) (n : ℕ). each_below (λ t. table_at ds t) n) c.delta.view_is (c.table_count.ensures.count ∙ sym c.self.invariant.good.count))
    (subst (λ (ts : List Rows). c.prepare_tick.new.steps.count ≤ c.args.steps.now.count + cost false c.self.inside.circuit ts c.deref-3.result.now) ready.1 (c.in_ok-prepared.ensures.cost ready.0)))
