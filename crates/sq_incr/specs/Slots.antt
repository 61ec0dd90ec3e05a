-- What is noted of the tasks of a tick while an order is played.
--     is_done, is_run, is_broken slot     the task was played; it ran; a number left its range
--     change_in slot               the change that it left, none if it did not run
--     IsSlotOf made slot           the slot notes what a step gave
--     piece_at r i s               the piece of the node i in the shard s
--     IsMade r i s piece           this is that piece, in range, and takes what the node keeps to what belongs to the new tables
--     is_readable r i              what the node i reads is sound over the new tables.     is_to_blame r i      so that its fault counts, if it has one
--     IsTold r i s slot            the slot tells what became of the task, which was played
--     AreNoted r front lines       a line for each node and in it a slot for each shard, which tell what became of the tasks of `front`
use Rattle.std.specs.Prelude.{◌≡◌, ℕ, ℤ, Bool, true, false, ◌&&◌, List, length, slice_get, Option, Some, None, Result, Ok, Err, ⊤}
use Rattle.sq_algebra.specs.Keyed.{cut}
use Rattle.sq_circuit.specs.Circuits.{are_sound, has_fault, has_number_outside, table_at, whole_from}
use Rattle.sq_circuit.specs.Nodes.{Rows, left_key, left_source, none}
use Rattle.sq_circuit.specs.Pieces.{pieces}
use Rattle.sq_circuit.specs.Verdicts.{source_sound}
use Rattle.sq_circuit.specs.declared.circuit.Part.{Part}
use Rattle.sq_zset.specs.Range.{IsInRange}
use Rattle.sq_shard.specs.Shards.{shards}
use Rattle.sq_states.specs.Committing.{StaysInRange}
use Rattle.sq_states.specs.Keeps.{IsChanged, change_kind, state_kind}
use Rattle.sq_states.specs.declared.kept.NodeState.{NodeState}
use Rattle.sq_states.specs.declared.piece.Piece.{Piece}
use Rattle.sq_states.specs.declared.piece.StepRefusal.{StepRefusal}
use Rattle.sq_states.specs.declared.piece.StepRefusal.TheVariants as refusal
use Rattle.sq_incr.specs.Orders.{is_in, task}
use Rattle.sq_incr.specs.Ready.{IsKept, IsReady, KeepsPart}
use Rattle.sq_incr.specs.declared.store.Slot.{Slot}
use Rattle.sq_incr.specs.declared.store.Slot.TheVariants.{Open, Skipped, Broken, Ran}
use Rattle.sq_incr.specs.declared.task.Task.{Task}

-- ---- a slot
abbrev pub is_done : Slot → Bool
is_done Open = false
is_done Skipped = true
is_done Broken = true
is_done (Ran piece) = true

abbrev pub is_run : Slot → Bool
is_run Open = false
is_run Skipped = false
is_run Broken = false
is_run (Ran piece) = true

abbrev pub is_broken : Slot → Bool
is_broken Open = false
is_broken Skipped = false
is_broken Broken = true
is_broken (Ran piece) = false

abbrev pub change_in : Slot → Rows
change_in Open = none
change_in Skipped = none
change_in Broken = none
change_in (Ran piece) = piece.change

-- what is noted of what a step gives
abbrev pub IsSlotOf : Result Piece StepRefusal → Slot → Type 0
IsSlotOf (Ok piece) slot = slot ≡ Ran piece
IsSlotOf (Err (refusal.Fault fault)) slot = slot ≡ Broken
IsSlotOf (Err refusal.Memory) slot = ⊥

module _ {c : List Part} {states : List (List NodeState)} {totals : List ℤ} {changes : List Rows} {first : Bool} (r : IsReady c states totals changes first) where
  -- ---- a piece
  abbrev pub piece_at : ℕ → ℕ → Rows
  piece_at i s = pieces first c (shards (length states)) r.old (table_at changes) i s

  pub record IsMade (i s : ℕ) (piece : Piece) : Type 0 where
    pub node : piece.node ≡ i
    pub change : piece.change ≡ piece_at i s
    pub in_range : IsInRange piece.change
    pub keeps : (p : Part) (kept now : NodeState) → slice_get c i ≡ Some p → IsKept states i s kept → IsChanged kept piece.kept now → KeepsPart false c r.new (length states) p s now
    pub kind : (kept : NodeState) → IsKept states i s kept → change_kind piece.kept ≡ state_kind kept
    pub stays : (p : Part) (kept : NodeState) → slice_get c i ≡ Some p → IsKept states i s kept → StaysInRange kept piece.kept

  -- ---- a task
  abbrev pub is_readable : ℕ → Bool
  is_readable i = are_sound (slice_get c i) (source_sound c r.new)

  abbrev pub is_to_blame : ℕ → Bool
  is_to_blame i = is_readable i && has_fault c r.new i

  abbrev pub part_outside : Option Part → ℕ → Bool
  part_outside None s = false
  part_outside (Some p) s = has_number_outside p.node (cut (shards (length states)) (left_key p.node) s (whole_from c r.new (left_source p.node)))

  -- it ran, since no number of its part is outside
  pub record HasRun (i s : ℕ) (piece : Piece) : Type 0 where
    pub readable : is_readable i ≡ true
    pub inside : part_outside (slice_get c i) s ≡ false
    pub made : IsMade i s piece

  abbrev pub Tells : ℕ → ℕ → Slot → Type 0
  Tells i s Open = ⊤
  Tells i s Skipped = is_readable i ≡ false
  Tells i s Broken = is_to_blame i ≡ true
  Tells i s (Ran piece) = HasRun i s piece

  -- what is told of a task that was played
  pub record IsTold (i s : ℕ) (slot : Slot) : Type 0 where
    pub done : is_done slot ≡ true
    pub tells : Tells i s slot

  -- ---- all tasks
  pub record IsNoted (front : List Task) (i s : ℕ) (slot : Slot) : Type 0 where
    pub played : is_done slot ≡ is_in front (task i s)
    pub tells : Tells i s slot

  pub record AreNoted (front : List Task) (lines : List (List Slot)) : Type 0 where
    pub count : length lines ≡ length c
    pub wide : (i : ℕ) (line : List Slot) → slice_get lines i ≡ Some line → length line ≡ length states
    pub each : (i s : ℕ) (line : List Slot) (slot : Slot) → slice_get lines i ≡ Some line → slice_get line s ≡ Some slot → IsNoted front i s slot
