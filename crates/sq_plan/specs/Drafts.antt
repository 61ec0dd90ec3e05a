-- A circuit in the making: what its parts keep, and what a step adds to them.
--     IsThere d i           there is a node i.       IsNode d i      and its rows are those of a list, where it is sound
--     kinds_of d i, worth_of d i      its kinds, and its Z-set over tables
--     IsDraft d             the parts are a circuit in the making.       CanAdd n d      and there is room for n further ones
--     blames d tables       a node of the view that is being planned has a fault
--     IsNext d p            the part p may stand behind those of d.       Appends d e i p      it stands there in e
--     Adds n d e i kinds z f      behind the parts of d stand at most n others, which belong to the view; of those the node i has these
--                           kinds and is worth z, and some of them has a fault exactly if f says so
use Rattle.std.specs.Prelude.{◌≡◌, ℕ, zero, suc, ◌+◌, ◌<◌, ◌≤◌, ◌^◌, ◌==◌, Bool, false, ◌&&◌, ◌||◌, List, [], ◌∷◌, ◌++◌, length, Option, Some, None}
use Rattle.std.specs.List.{AllByRecursion}
use Rattle.sq_expr.specs.declared.expr.Kind.{Kind}
use Rattle.sq_circuit.specs.Circuits.{fault_of, has_fault, kinds_at, owner_at, whole, whole_from}
use Rattle.sq_circuit.specs.Begun as making
use Rattle.sq_circuit.specs.Begun.{IsBegun}
use Rattle.sq_circuit.specs.Invariant.{table_count}
use Rattle.sq_circuit.specs.Listed.{HasList}
use Rattle.sq_circuit.specs.Nodes.{Rows, left_source, operator, right_source}
use Rattle.sq_circuit.specs.declared.circuit.Part.{Part}
use Rattle.sq_plan.specs.declared.draft.Draft.{Draft}

-- ---- faults

-- whether a number below n passes a test
abbrev pub some_below : (ℕ → Bool) → ℕ → Bool
some_below f zero = false
some_below f (suc n) = some_below f n || f n

abbrev pub is_of : ℕ → Option ℕ → Bool
is_of v None = false
is_of v (Some w) = w == v

-- whether a node of the view v has a fault
abbrev pub blames_view : List Part → List Rows → ℕ → Bool
blames_view c tables v = some_below (λ i. is_of v (owner_at c i) && has_fault c tables i) (length c)

abbrev pub blames : Draft → List Rows → Bool
blames d tables = blames_view d.parts.items tables d.view

-- ---- parts so far
-- there is a node i
abbrev pub IsThere : Draft → ℕ → Type 0
IsThere d i = i < length d.parts.items

-- and where it is sound, its rows are those of a list
pub record IsNode (d : Draft) (i : ℕ) : Type 0 where
  pub there : IsThere d i
  pub list : HasList d.parts.items i

abbrev pub kinds_of : Draft → ℕ → List Kind
kinds_of d i = kinds_at d.parts.items i

abbrev pub worth_of : Draft → ℕ → List Rows → Rows
worth_of d i tables = whole d.parts.items tables i

-- for any number of views that has the one that is being planned
pub record IsDraft (d : Draft) : Type 0 where
  pub begun : (views : ℕ) → d.view < views → IsBegun views d.view d.parts.items

pub record CanAdd (n : ℕ) (d : Draft) : Type 0 where
  pub draft : IsDraft d
  pub room : length d.parts.items + n < 2 ^ 32

pub record IsNext (d : Draft) (p : Part) : Type 0 where
  pub next : (views : ℕ) → d.view < views → making.IsNext views d.view d.parts.items p

-- e is d with the part p behind it, which has the number i
pub record Appends (d e : Draft) (i : ℕ) (p : Part) : Type 0 where
  pub view : e.view ≡ d.view
  pub is : e.parts.items ≡ d.parts.items ++ p ∷ []
  pub at : i ≡ length d.parts.items
  pub draft : IsDraft e

-- what a part behind those of d is worth over tables, and whether it has a fault
abbrev pub worth_behind : Draft → Part → List Rows → Rows
worth_behind d p tables = operator p.node (whole_from d.parts.items tables (left_source p.node)) (whole_from d.parts.items tables (right_source p.node))

abbrev pub faulty_behind : Draft → Part → List Rows → Bool
faulty_behind d p tables = fault_of (Some p) (whole_from d.parts.items tables) (worth_behind d p tables)

-- ---- steps
abbrev pub IsOwnedBy : ℕ → Part → Type 0
IsOwnedBy v p = p.owner ≡ Some v

pub record Adds (n : ℕ) (d e : Draft) (i : ℕ) (kinds : List Kind) (z : List Rows → Rows) (f : List Rows → Bool) : Type 0 where
  pub view : e.view ≡ d.view
  pub more : List Part
  pub is : e.parts.items ≡ d.parts.items ++ more
  pub no_tables : table_count more ≡ 0
  pub owned : AllByRecursion (IsOwnedBy d.view) more
  pub few : length more ≤ n
  pub draft : IsDraft e
  pub low : IsNode e i
  pub kinds_are : kinds_of e i ≡ kinds
  pub worth : (tables : List Rows) → worth_of e i tables ≡ z tables
  pub blame : (tables : List Rows) → blames e tables ≡ (blames d tables || f tables)
