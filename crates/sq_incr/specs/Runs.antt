-- What is taken for granted of one task before it runs.
--     CanRun c states totals changes first lines t     the tick is ready, the task is one of it, and those that it needs were played
--     CanStep c states first t left right              what its node reads is sound, and has these changes on both sides
use Rattle.std.specs.Prelude.{◌≡◌, ℤ, Bool, List, length, Some}
use Rattle.sq_circuit.specs.Circuits.{node_at}
use Rattle.sq_circuit.specs.Nodes.{Rows, left_source, right_source}
use Rattle.sq_circuit.specs.declared.circuit.Part.{Part}
use Rattle.sq_circuit.specs.declared.node.Node.{Node}
use Rattle.sq_states.specs.declared.kept.NodeState.{NodeState}
use Rattle.sq_incr.specs.Inputs.{AreDone, Rises}
use Rattle.sq_incr.specs.Orders.{IsInRange}
use Rattle.sq_incr.specs.Ready.{IsReady}
use Rattle.sq_incr.specs.Slots.{AreNoted}
use Rattle.sq_incr.specs.declared.store.Slot.{Slot}
use Rattle.sq_incr.specs.declared.task.Task.{Task}

pub record CanRun (c : List Part) (states : List (List NodeState)) (totals : List ℤ) (changes : List Rows) (first : Bool) (lines : List (List Slot)) (t : Task) : Type 0 where
  pub ready : IsReady c states totals changes first
  pub front : List Task
  pub noted : AreNoted ready front lines
  pub in_range : IsInRange c (length states) t
  pub left_done : (n : Node) → node_at c t.node ≡ Some n → AreDone lines (left_source n)
  pub right_done : (n : Node) → node_at c t.node ≡ Some n → AreDone lines (right_source n)

pub record CanStep (c : List Part) (states : List (List NodeState)) (first : Bool) (t : Task) (left right : Rows) : Type 0 where
  pub totals : List ℤ
  pub changes : List Rows
  pub ready : IsReady c states totals changes first
  pub in_range : IsInRange c (length states) t
  pub left_rises : (n : Node) → node_at c t.node ≡ Some n → Rises ready (left_source n) left
  pub right_rises : (n : Node) → node_at c t.node ≡ Some n → Rises ready (right_source n) right
