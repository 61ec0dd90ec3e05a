-- Tables as the traces of their nodes hold them. There is a state for each shard, and the table t of a circuit is its node t.
--     own_row e             the row of an entry with its weight, if it stands under itself as its key
--     rows_held parts       the rows that a trace holds under themselves
--     rows_kept kept        those of the state of a node that keeps rows; no other node has any
--     table_in states t     those of the node t, over all shards
--     tables_in c states    the tables of a circuit
--     HoldsTable states t z      each shard holds its part of the rows z in the node t
--     HoldTables c tables states     each table stands in the states so, and there are 1 to 64 shards
--     HaveTables c          states that keep what belongs to some tables have these, and no others
use Rattle.std.specs.Prelude.{◌≡◌, ℕ, ◌<◌, ◌≤◌, false, if◌then◌else◌, List, [], ◌∷◌, ℤ, length, slice_get, Option, Some, None}
use Rattle.std.specs.List.{flat_map}
use Rattle.std.specs.Ordering.{is_eq}
use Rattle.sq_value.specs.declared.value.Value.{Value}
use Rattle.sq_value.specs.Order.{row_cmp}
use Rattle.sq_algebra.specs.Groups.{sum_over, z_sets}
use Rattle.sq_algebra.specs.Keyed.{cut}
use Rattle.sq_algebra.specs.ZSet.{from_pairs}
use Rattle.sq_circuit.specs.Along.{each_below}
use Rattle.sq_circuit.specs.Circuits.{table_at}
use Rattle.sq_circuit.specs.Invariant.{table_count}
use Rattle.sq_circuit.specs.Nodes.{Rows, none}
use Rattle.sq_circuit.specs.declared.circuit.Part.{Part}
use Rattle.sq_distinct.specs.Stepping.{HoldsRows}
use Rattle.sq_incr.specs.Ready.{IsKept, Keeps}
use Rattle.sq_shard.specs.Shards.{shards}
use Rattle.sq_states.specs.Keeps.{OnRows}
use Rattle.sq_states.specs.declared.kept.NodeState.{NodeState}
use Rattle.sq_states.specs.declared.kept.NodeState.TheVariants as state
use Rattle.sq_trace.specs.declared.entry.Entry.{Entry}

-- ---- the rows of a trace
abbrev pub own_row : Entry ℤ → List (List Value × ℤ)
own_row e = if is_eq (row_cmp e.key e.row) then (e.row, e.payload) ∷ [] else []

unfoldable pub rows_held : List (List (Entry ℤ)) → Rows
rows_held parts = from_pairs row_cmp (flat_map (λ es. flat_map own_row es) parts)

-- ---- the rows of a node
abbrev pub rows_kept : Option NodeState → Rows
rows_kept None = none
rows_kept (Some state.Nothing) = none
rows_kept (Some (state.Rows parts)) = rows_held parts
rows_kept (Some (state.Sides left right)) = none
rows_kept (Some (state.Groups accs ordered shown)) = none

unfoldable pub table_in : List (List NodeState) → ℕ → Rows
table_in states t = sum_over (z_sets row_cmp) (λ shard. rows_kept (slice_get shard t)) states

abbrev pub tables_in : List Part → List (List NodeState) → List Rows
tables_in c states = each_below (table_in states) (table_count c)

-- ---- what stands in the states
-- a row stands in the shard of the row as a whole
pub record HoldsTable (states : List (List NodeState)) (t : ℕ) (z : Rows) : Type 0 where
  pub inside : (s : ℕ) (shard : List NodeState) → slice_get states s ≡ Some shard → t < length shard
  pub each : (s : ℕ) (kept : NodeState) → IsKept states t s kept → OnRows kept (λ parts. HoldsRows parts (cut (shards (length states)) (λ row. row) s z))

pub record HoldTables (c : List Part) (tables : List Rows) (states : List (List NodeState)) : Type 0 where
  pub some : 0 < length states
  pub few : length states ≤ 64
  pub each : (t : ℕ) → t < table_count c → HoldsTable states t (table_at tables t)

-- ---- words for laws
abbrev pub HaveTables : List Part → Type 0
HaveTables c = (tables : List Rows) (states : List (List NodeState)) (totals : List ℤ) → 0 < length states → length tables ≡ table_count c → Keeps false c tables states totals → tables_in c states ≡ tables
