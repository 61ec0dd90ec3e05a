-- Changes of a circuit in parts: what each node adds in each shard, whatever the shards are. With one shard these are the changes.
--     changed old new change        the new tables are the old ones with these changes
--     pieces first c S old change i s      the piece of the node i in the shard s
use Rattle.std.specs.Prelude.{◌≡◌, ℕ, Bool, List, slice_get, Option, Some, None}
use Rattle.sq_value.specs.declared.value.Value.{Value}
use Rattle.sq_value.specs.Order.{row_cmp}
use Rattle.sq_algebra.specs.Groups.{z_sets}
use Rattle.sq_algebra.specs.Keyed.{Shards, over_shards}
use Rattle.sq_algebra.specs.ZSet.{minus, plus}
use Rattle.sq_circuit.specs.Along.{along}
use Rattle.sq_circuit.specs.Circuits.{table_at, whole, whole_from}
use Rattle.sq_circuit.specs.Costs.{before}
use Rattle.sq_circuit.specs.NodeLaws.{share}
use Rattle.sq_circuit.specs.Nodes.{Rows, Source, left_source, none, read, right_source}
use Rattle.sq_circuit.specs.declared.circuit.Part.{Part}

-- the tables with their changes; at the start, before which nothing was there, the changes alone
abbrev pub AreChanged : Bool → List Rows → (ℕ → Rows) → List Rows → Type 0
AreChanged first old change new = (t : ℕ) → table_at new t ≡ plus (before first (table_at old t)) (change t)

module _ (first : Bool) (c : List Part) (S : Shards (List Value)) (old : List Rows) (change : ℕ → Rows) where
  -- what a source held
  abbrev pub held_at : Source → Rows
  held_at s = before first (whole_from c old s)

  -- what it holds, from the pieces of nodes in all shards
  abbrev pub held_now : (ℕ → ℕ → Rows) → Source → Rows
  held_now pieces s = plus (held_at s) (read change (λ i. over_shards (z_sets row_cmp) S (pieces i)) none s)

  -- a node's share of what it reads, less its share of what it read
  abbrev pub piece_of : Option Part → (ℕ → ℕ → Rows) → ℕ → Rows
  piece_of None pieces s = none
  piece_of (Some p) pieces s =
      minus (share p.node S s (held_now pieces (left_source p.node)) (held_now pieces (right_source p.node)))
      (before first (share p.node S s (held_at (left_source p.node)) (held_at (right_source p.node))))

  abbrev pub piece_step : ℕ → (ℕ → ℕ → Rows) → ℕ → Rows
  piece_step i below s = piece_of (slice_get c i) below s

  unfoldable pub pieces : ℕ → ℕ → Rows
  pieces i = along (λ s. none) piece_step i

-- over all shards the pieces of each node add up to its change
abbrev pub AddUpToChanges : Bool → List Part → Shards (List Value) → List Rows → (ℕ → Rows) → List Rows → Type 0
AddUpToChanges first c S old change new = (i : ℕ) → over_shards (z_sets row_cmp) S (pieces first c S old change i) ≡ minus (whole c new i) (before first (whole c old i))
