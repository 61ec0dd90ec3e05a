-- What a tick costs, in the tables and changes of an engine.
use Rattle.std.proofs.Common.{◌≡◌, ℕ, zero, suc, ◌+◌, ◌<◌, ◌≤◌, Bool, true, false, List, [], ◌∷◌, length, replicate, ℤ, refl, sym, ap, ap₂, subst, ◌∙◌, arith}
use Rattle.std.specs.List.{sum_by}
use Rattle.std.specs.Prelude.{slice_get}
use Rattle.sq_algebra.specs.Keyed.{numbers_below}
use Rattle.sq_algebra.specs.ZSet.{plus}
use Rattle.sq_circuit.specs.Along.{each_below}
use Rattle.sq_circuit.specs.Circuits.{table_at}
use Rattle.sq_circuit.specs.Costs.{changed_tables, cost, cost_at}
use Rattle.sq_circuit.specs.Invariant.{table_count}
use Rattle.sq_circuit.specs.Nodes.{Rows, none}
use Rattle.sq_circuit.specs.declared.circuit.Part.{Part}
use Rattle.sq_circuit.proofs.Alongside.{each-length}
use Rattle.sq_states.specs.declared.kept.NodeState.{NodeState}
use Rattle.sq_incr.specs.Ready.{IsReady, part_cost}
use Rattle.sq_incr.specs.TickCosts.{tick_cost}
use Rattle.sq_incr.specs.declared.task.Task.{Task}
use Rattle.sq_incr.proofs.Spending.{tasks_cost_the_tick}
use Rattle.sq_engine.specs.Engines.{no_tables}
use Rattle.sq_engine.specs.Ticking.{all_of}
use Rattle.sq_engine.proofs.Listing.{each_got, plus_none, same_tables}

-- ---- all tasks
pub played_cost : {c : List Part} {states : List (List NodeState)} {totals : List ℤ} {changes : List Rows} {first : Bool} (r : IsReady c states totals changes first) (order : List Task) → order ≡ all_of (length c) (length states)
    → (old new : ℕ) → new ≤ old + sum_by (part_cost r) order → new ≤ old + tick_cost r
played_cost {c} {states} {totals} {changes} {first} r order is old new low =
    subst (λ k. new ≤ old + k) (ap (sum_by (part_cost r)) is ∙ tasks_cost_the_tick c states totals changes first r) low

-- ---- tables and changes
changed_long : (tables changes : List Rows) → length (changed_tables tables changes) ≡ length tables
changed_long [] changes = refl
changed_long (z ∷ tables) [] = refl
changed_long (z ∷ tables) (d ∷ changes) = ap suc (changed_long tables changes)

changed_at : (tables changes : List Rows) (t : ℕ) → t < length tables → table_at (changed_tables tables changes) t ≡ plus (table_at tables t) (table_at changes t)
changed_at [] changes t low = absurd (omega arith)
changed_at (z ∷ tables) [] zero low = sym (plus_none z)
changed_at (z ∷ tables) [] (suc t) low = sym (plus_none (table_at tables t))
changed_at (z ∷ tables) (d ∷ changes) zero low = refl
changed_at (z ∷ tables) (d ∷ changes) (suc t) low = changed_at tables changes t (omega arith)

-- changes behind the last table add nothing
fitted_same : (tables delta changes : List Rows) → changes ≡ each_below (λ t. table_at delta t) (length tables) → changed_tables tables changes ≡ changed_tables tables delta
fitted_same tables delta changes is =
    same_tables (changed_tables tables changes) (changed_tables tables delta) (changed_long tables changes ∙ sym (changed_long tables delta))
    (λ t low.
    let inside : t < length tables = subst (λ k. t < k) (changed_long tables changes) low in
    changed_at tables changes t inside ∙ ap (λ z. plus (table_at tables t) z) (ap (λ zs. table_at zs t) is ∙ each_got (λ t. table_at delta t) (length tables) t inside) ∙ sym (changed_at tables delta t inside))

pub fitted_cost : (first : Bool) (c : List Part) (tables delta changes : List Rows) → changes ≡ each_below (λ t. table_at delta t) (length tables) → cost first c tables changes ≡ cost first c tables delta
fitted_cost first c tables delta changes is = ap (λ new. sum_by (λ i. cost_at first c tables new (slice_get c i)) (numbers_below (length c))) (fitted_same tables delta changes is)

empty_tables : (n : ℕ) → replicate n none ≡ each_below (λ t. none) n
empty_tables n = same_tables (replicate n none) (each_below (λ t. none) n) (long n ∙ sym (each-length (λ t. none) n)) (λ t low. nothing n t ∙ sym (each_got (λ t. none) n t (subst (λ k. t < k) (long n) low)))
  where
    long : (n : ℕ) → length (replicate n none) ≡ n
    long zero = refl
    long (suc n) = ap suc (long n)

    nothing : (n t : ℕ) → table_at (replicate n none) t ≡ none
    nothing zero t = refl
    nothing (suc n) zero = refl
    nothing (suc n) (suc t) = nothing n t

pub begun_cost : (c : List Part) (changes : List Rows) → changes ≡ no_tables c → cost true c (replicate (table_count c) none) changes ≡ cost true c (no_tables c) (no_tables c)
begun_cost c changes is = ap₂ (λ ts ds. cost true c ts ds) (empty_tables (table_count c)) is

pub start_cost : (c k : List Part) (changes : List Rows) (old new : ℕ) → c ≡ k → changes ≡ no_tables c → new ≤ old + cost true c (replicate (table_count c) none) changes → new ≤ old + cost true k (no_tables k) (no_tables k)
start_cost c k changes old new same is low = subst (λ (k : List Part). new ≤ old + cost true k (no_tables k) (no_tables k)) same (subst (λ m. new ≤ old + m) (begun_cost c changes is) low)

pub later_cost : (c : List Part) (tables delta changes : List Rows) (old new : ℕ) → changes ≡ each_below (λ t. table_at delta t) (length tables) → new ≤ old + cost false c tables changes → new ≤ old + cost false c tables delta
later_cost c tables delta changes old new is low = subst (λ m. new ≤ old + m) (fitted_cost false c tables delta changes is) low
