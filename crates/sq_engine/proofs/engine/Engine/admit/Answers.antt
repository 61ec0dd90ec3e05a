use Rattle.std.proofs.Common.{rules, ◌≡◌, ◌<◌, length, Ok, subst, sym, ap, ◌∙◌}
use Rattle.std.specs.List.{AllByRecursion}
use Rattle.sq_typed.specs.declared.update.Update.{Update}
use Rattle.sq_circuit.specs.Invariant.{IsCircuit, IsGood, table_count}
use Rattle.sq_engine.specs.Admitting.{made, netted}
use Rattle.sq_engine.specs.Engines.{State, with_changes}
use Rattle.sq_engine.proofs.Admitted.{good_made}
use Rattle.sq_engine.proofs.Keeping.{tables_held}
use Rattle.sq_tables.specs.Tables.{HoldTables, tables_in}
use Rattle.sq_engine.proofs.engine.Engine.admit.Goals as goal

pub first_absent-requires-clause-inside : goal.first_absent-requires-clause-inside
first_absent-requires-clause-inside g c =
    let many : length c.args.self.now.tables ≡ table_count c.self.inside.circuit = ap (λ (s : State). length s.tables) (sym c.self.view_is) ∙ c.self.invariant.good.count in
    subst (λ n. AllByRecursion (λ (u : Update). u.table < n) c.args.updates.now) many c.requires.fits.inside

pub first_absent-requires-clause-holds : goal.first_absent-requires-clause-holds
first_absent-requires-clause-holds g c =
    subst (λ states. HoldTables c.self.inside.circuit (tables_in c.self.inside.circuit states) states) (sym c.deref.ensures.value)
    (tables_held c.self.inside.circuit c.self.inside.states.items c.self.inside.totals.items c.self.inside.started c.self.invariant (ap (λ (s : State). s.started) c.self.view_is ∙ c.requires.started) c.len.ensures.sound)

pub returns-clause-good : goal.returns-clause-good
returns-clause-good g c =
    let done : made c.args.self.now.tables c.args.updates.now ≡ Ok (with_changes c.args.self.now.tables c.in_ok-changes.changes.items) = search rules in
    let sound : IsCircuit c.args.self.now.circuit = subst (λ (s : State). IsCircuit s.circuit) c.self.view_is c.in_ok-changes.ensures.sound in
    let good : IsGood c.args.self.now.circuit c.args.self.now.tables = subst (λ (s : State). IsGood s.circuit s.tables) c.self.view_is c.self.invariant.good in
    let is : c.in_ok-changes.changes.items ≡ netted (length c.args.self.now.tables) c.args.updates.now =
    c.in_ok-changes.ensures.changes ∙ ap (λ n. netted n c.args.updates.now) (ap (λ (s : State). table_count s.circuit) c.self.view_is ∙ sym good.count) in
    subst (λ ds. IsGood c.args.self.now.circuit (with_changes c.args.self.now.tables ds)) (sym is)
    (good_made c.args.self.now c.args.updates.now sound good c.requires.fits (subst (λ ds. made c.args.self.now.tables c.args.updates.now ≡ Ok (with_changes c.args.self.now.tables ds)) is done))
