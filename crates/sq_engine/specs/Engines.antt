-- Engines: a circuit over tables that change tick by tick.
--     State                       an engine: its circuit, whether it has started, its tables, and its number of shards
--     no_tables c                 the tables of a circuit, without rows
--     with_changes tables changes      each table with its change; a table without one stays
--     view_node c v               the node of the view v: the views are the last nodes, in order
--     views_over c tables         the Z-set of each view over these tables
--     views_between c old new     what each view has over new tables, less what it has over old ones
--     fresh, begun, moved         an engine that has not started; one that has, over tables without rows; one behind a tick
--     IsKept s states totals      what an engine keeps, with the states of its shards and the totals of its nodes
use Rattle.std.specs.Prelude.{◌≡◌, ℕ, ◌+◌, ◌-◌, ◌<◌, ◌≤◌, ◌^◌, ℤ, pos, Bool, true, false, List, length, replicate, None, refl}
use Rattle.std.specs.Coded.{Coded, code_by, coded×, coded_bool, coded_ℕ}
use Rattle.sq_algebra.specs.ZSet.{minus, plus}
use Rattle.sq_circuit.specs.Along.{each_below}
use Rattle.sq_circuit.specs.Circuits.{table_at, verdict, whole}
use Rattle.sq_circuit.specs.Invariant.{IsGood, table_count, view_count}
use Rattle.sq_circuit.specs.Nodes.{Rows, none}
use Rattle.sq_circuit.specs.declared.circuit.Part.{Part}
use Rattle.sq_states.specs.Empty.{empty_states}
use Rattle.sq_states.specs.declared.kept.NodeState.{NodeState}
use Rattle.sq_incr.specs.Ready.{Keeps}

pub record State : Type 0 where
  pub circuit : List Part
  pub started : Bool
  pub tables : List Rows
  pub shards : ℕ

-- an engine is stored as its parts, in pairs
abbrev pub state_code : Coded (List Part) → Coded (List Rows) → Coded State
state_code parts tables =
    code_by (List Part × (Bool × (List Rows × ℕ))) (coded× parts (coded× coded_bool (coded× tables coded_ℕ)))
    (λ s. (s.circuit, (s.started, (s.tables, s.shards)))) (λ p. record { circuit = p.0; started = p.1.0; tables = p.1.1.0; shards = p.1.1.1 }) (λ _. refl)

-- ---- tables
abbrev pub no_tables : List Part → List Rows
no_tables c = each_below (λ t. none) (table_count c)

abbrev pub with_changes : List Rows → List Rows → List Rows
with_changes tables changes = each_below (λ t. plus (table_at tables t) (table_at changes t)) (length tables)

-- ---- views
abbrev pub view_node : List Part → ℕ → ℕ
view_node c v = length c - view_count c + v

abbrev pub views_over : List Part → List Rows → List Rows
views_over c tables = each_below (λ v. whole c tables (view_node c v)) (view_count c)

abbrev pub views_between : List Part → List Rows → List Rows → List Rows
views_between c old new = each_below (λ v. minus (whole c new (view_node c v)) (whole c old (view_node c v))) (view_count c)

-- ---- engines
abbrev pub fresh : List Part → ℕ → State
fresh c shards = record { circuit = c; started = false; tables = no_tables c; shards = shards }

abbrev pub begun : State → State
begun s = record { circuit = s.circuit; started = true; tables = no_tables s.circuit; shards = s.shards }

abbrev pub moved : State → List Rows → State
moved s changes = record { circuit = s.circuit; started = true; tables = with_changes s.tables changes; shards = s.shards }

-- the tables are good; before the start they have no rows and the states are empty, and later no view is out of range over them
-- and the states keep them
pub record IsKept (s : State) (states : List (List NodeState)) (totals : List ℤ) : Type 0 where
  pub some : 0 < length states
  pub few : length states ≤ 64
  pub nodes : length s.circuit < 2 ^ 26
  pub good : IsGood s.circuit s.tables
  pub empty : s.started ≡ false → s.tables ≡ no_tables s.circuit
  pub fresh_states : s.started ≡ false → states ≡ replicate (length states) (empty_states s.circuit)
  pub fresh_totals : s.started ≡ false → totals ≡ replicate (length s.circuit) (pos 0)
  pub sound : s.started ≡ true → verdict s.circuit s.tables ≡ None
  pub keeps : s.started ≡ true → Keeps false s.circuit s.tables states totals
