-- What the tasks of a tick cost together.
--     cost_in_shard first n node y dy z dz s     what a node costs in the shard s of n, over the parts of what it reads there
--     PartsCostTheNode n     over n shards this adds up to the cost of the node
--     tables_before r        the tables before the tick; at the start they have no rows
--     tick_cost r            what the tick costs
--     TasksCostTheTick c, OrdersCostAtMost c     all tasks together cost this, and those of a legal order at most as much
use Rattle.std.specs.Prelude.{◌≡◌, ℕ, ◌≤◌, ◌==◌, ◌&&◌, Bool, if◌then◌else◌, List, length, replicate, ℤ}
use Rattle.std.specs.List.{sum_by}
use Rattle.sq_algebra.specs.Keyed.{cut, numbers_below}
use Rattle.sq_circuit.specs.Costs.{cost, node_cost}
use Rattle.sq_circuit.specs.Invariant.{table_count}
use Rattle.sq_circuit.specs.Nodes.{Rows, left_key, none, right_key}
use Rattle.sq_circuit.specs.declared.circuit.Part.{Part}
use Rattle.sq_circuit.specs.declared.node.Node.{Node}
use Rattle.sq_incr.specs.Orders.{IsLegal, all_tasks}
use Rattle.sq_incr.specs.Ready.{IsReady, part_cost}
use Rattle.sq_incr.specs.declared.task.Task.{Task}
use Rattle.sq_shard.specs.Shards.{shards}
use Rattle.sq_states.specs.declared.kept.NodeState.{NodeState}

-- ---- a node
abbrev pub cost_in_shard : Bool → ℕ → Node → Rows → Rows → Rows → Rows → ℕ → ℕ
cost_in_shard first n node y dy z dz s =
    node_cost (first && s == 0) node (cut (shards n) (left_key node) s y) (cut (shards n) (left_key node) s dy)
    (cut (shards n) (right_key node) s z) (cut (shards n) (right_key node) s dz)

abbrev pub PartsCostTheNode : ℕ → Type 0
PartsCostTheNode n = (first : Bool) (node : Node) (y dy z dz : Rows) → sum_by (cost_in_shard first n node y dy z dz) (numbers_below n) ≡ node_cost first node y dy z dz

-- ---- a tick
module _ {c : List Part} {states : List (List NodeState)} {totals : List ℤ} {changes : List Rows} {first : Bool} (r : IsReady c states totals changes first) where
  abbrev pub tables_before : List Rows
  tables_before = if first then replicate (table_count c) none else r.old

  abbrev pub tick_cost : ℕ
  tick_cost = cost first c tables_before changes

-- ---- words for laws
module _ (c : List Part) where
  abbrev pub TasksCostTheTick : Type 0
  TasksCostTheTick =
      (states : List (List NodeState)) (totals : List ℤ) (changes : List Rows) (first : Bool) (r : IsReady c states totals changes first)
      → sum_by (part_cost r) (all_tasks c (length states)) ≡ tick_cost r

  abbrev pub OrdersCostAtMost : Type 0
  OrdersCostAtMost =
      (states : List (List NodeState)) (totals : List ℤ) (changes : List Rows) (first : Bool) (r : IsReady c states totals changes first)
      (order : List Task) → IsLegal c (length states) order → sum_by (part_cost r) order ≤ tick_cost r
