-- What an engine under test may be asked for, and that it stays ready.
use Rattle.std.proofs.Common.{◌≡◌, ℕ, suc, ◌+◌, ◌<◌, ◌≤◌, ◌^◌, ◌==◌, ◌≤ℤ◌, ◌+ℤ◌, ◌⊎◌, inl, inr, Bool, true, false, cond, ◌&&◌, List, [], ◌∷◌, length, Ok, Err, pos, refl, sym, ap, subst, ◌∙◌, arith}
use Rattle.std.specs.Prelude.{OnOk}
use Rattle.std.specs.declared.result.Result.{Result}
use Rattle.std.specs.List.{AllByRecursion, filter}
use borrow.Author.Differences.{ints}
use Rattle.sq_algebra.specs.ZSet.{total}
use Rattle.sq_expr.specs.Kinds.{AreOfKinds}
use Rattle.sq_typed.specs.declared.update.Update.{Update}
use Rattle.sq_circuit.specs.Circuits.{kinds_at, table_at}
use Rattle.sq_circuit.specs.Nodes.{Rows, none}
use Rattle.sq_circuit.proofs.Alongside.{each-length}
use Rattle.sq_engine.specs.Admitting.{MayAdmit, inserted, netted}
use Rattle.sq_engine.specs.Engines.{State, begun, fresh, moved, no_tables, with_changes}
use Rattle.sq_engine.proofs.Admitted.{total_made}
use Rattle.sq_engine.proofs.Keeping.{none_at, total_none}
use Rattle.sq_engine.proofs.Netting.{as_many}
use Rattle.sq_tests_engine.specs.Totals.{AreOfNumbers, IsOfNumbers, IsReady, numbers, totals_of_numbers}

-- ---- a few updates
some_inserted : (t : ℕ) (us : List Update) → inserted t us ≤ length us
some_inserted t [] = omega arith
some_inserted t (u ∷ us) = elim (u.insert && (u.table == t)) as (λ b. length (cond b (u ∷ filter (λ u. u.insert && (u.table == t)) us) (filter (λ u. u.insert && (u.table == t)) us)) ≤ suc (length us)) [
  | true ↦ let rest = some_inserted t us in omega arith
  | false ↦ let rest = some_inserted t us in omega arith
]

of_table : (us : List Update) → AreOfNumbers us → AllByRecursion (λ u. u.table < 1) us
of_table [] are = tt
of_table (u ∷ us) are = (let is = are.0.table in omega arith, of_table us are.1)

of_kinds : (us : List Update) → AreOfNumbers us → AllByRecursion (λ u. AreOfKinds u.row (kinds_at totals_of_numbers u.table)) us
of_kinds [] are = tt
of_kinds (u ∷ us) are = (subst (λ t. AreOfKinds u.row (kinds_at totals_of_numbers t)) (sym are.0.table) are.0.of_kinds, of_kinds us are.1)

pub may : (s : State) (us : List Update) (rows : ℕ) → IsReady rows s → AreOfNumbers us → rows ≤ 1000 → length us ≤ 1000 → MayAdmit s us
may s us rows ready are few more = record {
  inside = subst (λ n. AllByRecursion (λ u. u.table < n) us) (sym ready.one) (of_table us are);
  of_kinds = subst (λ c. AllByRecursion (λ u. AreOfKinds u.row (kinds_at c u.table)) us) (sym ready.circuit) (of_kinds us are);
  few = λ t. let held = ready.few t in let put = some_inserted t us in omega (arith, ints);
}

-- ---- it stays ready
pub ready_begun : (shards : ℕ) → IsReady 0 (begun (fresh totals_of_numbers shards))
ready_begun shards = record {
  circuit = refl;
  started = refl;
  one = each-length (λ t. none) 1;
  few = λ t. let nothing = ap total (none_at 1 t) ∙ total_none in omega (arith, ints);
}

pub ready_moved : (s : State) (us : List Update) (delta : List Rows) (rows : ℕ) → IsReady rows s → delta ≡ netted (length s.tables) us → IsReady (rows + length us) (moved s delta)
ready_moved s us delta rows ready is = subst (λ d. IsReady (rows + length us) (moved s d)) (sym is) (record {
  circuit = ready.circuit;
  started = refl;
  one = as_many s.tables us ∙ ready.one;
  few = λ t. let grows = total_made s.tables us t in let held = ready.few t in let put = some_inserted t us in omega (arith, ints);
})

pub ready_more : (s : State) (rows more : ℕ) → IsReady rows s → IsReady (rows + more) s
ready_more s rows more ready = record {
  circuit = ready.circuit;
  started = ready.started;
  one = ready.one;
  few = λ t. let held = ready.few t in omega (arith, ints);
}

-- a tick that is made, or refused
pub ready_played : (s now : State) (us : List Update) (delta : List Rows) (rows : ℕ) → IsReady rows s → delta ≡ netted (length s.tables) us → (now ≡ moved s delta) ⊎ (now ≡ s) → IsReady (rows + length us) now
ready_played s now us delta rows ready is (inl e) = subst (IsReady (rows + length us)) (sym e) (ready_moved s us delta rows ready is)
ready_played s now us delta rows ready is (inr e) = subst (IsReady (rows + length us)) (sym e) (ready_more s rows (length us) ready)

pub always : {X Y : Type 0} (r : Result X Y) (P : Type 0) → P → OnOk r P
always (Ok x) P h = h
always (Err e) P h = tt
