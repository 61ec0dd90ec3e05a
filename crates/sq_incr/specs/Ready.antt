-- What is taken for granted of a tick over shards, before its tasks run. A tick has a state for each shard, the total of each node, and the
-- change of each table.
--     IsKept states i s kept       what the state of the shard s keeps of the node i
--     read_over start c tables s   what a source holds over some tables; nothing at the start
--     Keeps start c tables states totals      the states keep what belongs to these tables, each the part of its shard, and the totals are theirs
--     IsReady c states totals changes first   the states keep what belongs to some old tables without a fault, which the changes take to good ones
--     StartsReady c, StaysReady c  a start is ready, and so is what is kept of tables without a fault
--     part_cost r t                what the task t costs, in steps: the cost of its node over the parts of its shard
use Rattle.std.specs.Prelude.{◌≡◌, ℕ, ◌<◌, ◌≤◌, ◌==◌, ◌&&◌, Bool, true, false, List, length, replicate, slice_get, ℤ, pos, Option, Some, None}
use Rattle.sq_algebra.specs.Keyed.{cut}
use Rattle.sq_algebra.specs.ZSet.{total}
use Rattle.sq_circuit.specs.Circuits.{table_at, verdict, whole, whole_from}
use Rattle.sq_circuit.specs.Costs.{before, change, held, node_cost}
use Rattle.sq_circuit.specs.Invariant.{IsGood, table_count}
use Rattle.sq_circuit.specs.Nodes.{Rows, Source, left_key, left_source, right_key, right_source}
use Rattle.sq_circuit.specs.Pieces.{AreChanged}
use Rattle.sq_circuit.specs.declared.circuit.Part.{Part}
use Rattle.sq_incr.specs.declared.task.Task.{Task}
use Rattle.sq_shard.specs.Shards.{shards}
use Rattle.sq_states.specs.Empty.{empty_states}
use Rattle.sq_states.specs.Keeps.{KeepsNode}
use Rattle.sq_states.specs.declared.kept.NodeState.{NodeState}

-- ---- what is kept
pub record IsKept (states : List (List NodeState)) (i s : ℕ) (kept : NodeState) : Type 0 where
  pub shard : List NodeState
  pub of_shard : slice_get states s ≡ Some shard
  pub of_node : slice_get shard i ≡ Some kept

abbrev pub read_over : Bool → List Part → List Rows → Source → Rows
read_over start c tables s = before start (whole_from c tables s)

abbrev pub KeepsPart : Bool → List Part → List Rows → ℕ → Part → ℕ → NodeState → Type 0
KeepsPart start c tables n p s kept = KeepsNode start (shards n) s p.node kept (read_over start c tables (left_source p.node)) (read_over start c tables (right_source p.node))

pub record Keeps (start : Bool) (c : List Part) (tables : List Rows) (states : List (List NodeState)) (totals : List ℤ) : Type 0 where
  pub nodes : (s : ℕ) (shard : List NodeState) → slice_get states s ≡ Some shard → length shard ≡ length c
  pub each : (i s : ℕ) (p : Part) (kept : NodeState) → slice_get c i ≡ Some p → IsKept states i s kept → KeepsPart start c tables (length states) p s kept
  pub totals_count : length totals ≡ length c
  pub total_of : (i : ℕ) (t : ℤ) → slice_get totals i ≡ Some t → t ≡ total (before start (whole c tables i))

-- ---- a tick
pub record IsReady (c : List Part) (states : List (List NodeState)) (totals : List ℤ) (changes : List Rows) (first : Bool) : Type 0 where
  pub old : List Rows
  pub new : List Rows
  pub some : 0 < length states
  pub few : length states ≤ 64
  pub keeps : Keeps first c old states totals
  pub was_good : first ≡ false → IsGood c old
  pub was_clear : first ≡ false → verdict c old ≡ None
  pub tables : length changes ≡ table_count c
  pub changed : AreChanged first old (table_at changes) new
  pub good : IsGood c new

module _ {c : List Part} {states : List (List NodeState)} {totals : List ℤ} {changes : List Rows} {first : Bool} (r : IsReady c states totals changes first) where
  -- what a source held, and how that changes
  abbrev pub old_at : Source → Rows
  old_at s = held first c r.old r.new s

  abbrev pub change_at : Source → Rows
  change_at s = change first c r.old r.new s

  -- ---- what a task costs
  abbrev pub cost_in : Option Part → ℕ → ℕ
  cost_in None s = 0
  cost_in (Some p) s =
      node_cost (first && s == 0) p.node (cut (shards (length states)) (left_key p.node) s (old_at (left_source p.node))) (cut (shards (length states)) (left_key p.node) s (change_at (left_source p.node)))
      (cut (shards (length states)) (right_key p.node) s (old_at (right_source p.node))) (cut (shards (length states)) (right_key p.node) s (change_at (right_source p.node)))

  abbrev pub part_cost : Task → ℕ
  part_cost t = cost_in (slice_get c t.node) t.shard

-- ---- words for laws
-- before anything was there, so many empty states and totals of 0 are ready for tables that are good
abbrev pub StartsReady : List Part → Type 0
StartsReady c = (n : ℕ) → 0 < n → n ≤ 64 → (changes : List Rows) → IsGood c changes → IsReady c (replicate n (empty_states c)) (replicate (length c) (pos 0)) changes true

-- what is kept of tables without a fault is ready for changes that leave good ones
abbrev pub StaysReady : List Part → Type 0
StaysReady c =
    (states : List (List NodeState)) (totals : List ℤ) (old new changes : List Rows) → 0 < length states → length states ≤ 64 → Keeps false c old states totals → IsGood c old → verdict c old ≡ None
    → length changes ≡ table_count c → AreChanged false old (table_at changes) new → IsGood c new → IsReady c states totals changes false
