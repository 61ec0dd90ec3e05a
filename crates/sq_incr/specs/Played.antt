-- What `play` answers.
--     AreAllRun lines          each task of the lines ran
--     IsPlayed r order pieces  the order is legal and whole, no view is to blame, and the pieces are those of the tasks
--     IsShort, IsRefused       the order is legal, but a task is missing; it is whole, but a view is to blame
--     Answers r order result   what each answer of `play` says
--     CanJudge ..              what is taken for granted when all tasks of an order were played
use Rattle.std.specs.Prelude.{◌≡◌, ℕ, ℤ, Bool, true, List, length, slice_get, Some, None, Result, Ok, Err, ⊤}
use Rattle.sq_circuit.specs.Circuits.{verdict}
use Rattle.sq_circuit.specs.Nodes.{Rows}
use Rattle.sq_circuit.specs.declared.circuit.Part.{Part}
use Rattle.sq_states.specs.declared.kept.NodeState.{NodeState}
use Rattle.sq_states.specs.declared.piece.Piece.{Piece}
use Rattle.sq_incr.specs.Orders.{FirstIllegal, IsFirstMissing, IsLegal, IsWhole}
use Rattle.sq_incr.specs.Ready.{IsReady}
use Rattle.sq_incr.specs.Slots.{AreNoted, IsMade, is_run}
use Rattle.sq_incr.specs.declared.pieces.PlayRefusal.{PlayRefusal}
use Rattle.sq_incr.specs.declared.pieces.PlayRefusal.TheVariants as refusal
use Rattle.sq_incr.specs.declared.store.Slot.{Slot}
use Rattle.sq_incr.specs.declared.store.Slot.TheVariants.{Ran}
use Rattle.sq_incr.specs.declared.task.Task.{Task}

abbrev pub AreAllRun : List (List Slot) → Type 0
AreAllRun lines = (i s : ℕ) (line : List Slot) (slot : Slot) → slice_get lines i ≡ Some line → slice_get line s ≡ Some slot → is_run slot ≡ true

-- the order is legal, and one of its tasks is missing
pub record IsShort (c : List Part) (n : ℕ) (order : List Task) (t : Task) : Type 0 where
  pub legal : IsLegal c n order
  pub missing : IsFirstMissing c n order t

-- the piece of a task
pub record HasPiece (lines : List (List Slot)) (t : Task) (piece : Piece) : Type 0 where
  pub line : List Slot
  pub at : slice_get lines t.node ≡ Some line
  pub is : slice_get line t.shard ≡ Some (Ran piece)

module _ {c : List Part} {states : List (List NodeState)} {totals : List ℤ} {changes : List Rows} {first : Bool} (r : IsReady c states totals changes first) (order : List Task) where
  pub record IsPlayed (pieces : List (List Slot)) : Type 0 where
    pub legal : IsLegal c (length states) order
    pub whole : IsWhole c (length states) order
    pub clear : verdict c r.new ≡ None
    pub count : length pieces ≡ length c
    pub wide : (i : ℕ) (line : List Slot) → slice_get pieces i ≡ Some line → length line ≡ length states
    pub ran : AreAllRun pieces
    pub made : (t : Task) (piece : Piece) → HasPiece pieces t piece → IsMade r t.node t.shard piece

  pub record IsRefused (view : ℕ) : Type 0 where
    pub legal : IsLegal c (length states) order
    pub whole : IsWhole c (length states) order
    pub blamed : verdict c r.new ≡ Some view

  -- what each answer says
  abbrev pub Answers : Result (List (List Slot)) PlayRefusal → Type 0
  Answers (Ok pieces) = IsPlayed pieces
  Answers (Err (refusal.NotLegal at)) = FirstIllegal c (length states) order at
  Answers (Err (refusal.Missing t)) = IsShort c (length states) order t
  Answers (Err (refusal.Range view)) = IsRefused view
  Answers (Err refusal.Memory) = ⊤

-- what is taken for granted when all tasks of an order were played
pub record CanJudge (c : List Part) (totals : List ℤ) (n : ℕ) (lines : List (List Slot)) : Type 0 where
  pub states : List (List NodeState)
  pub changes : List Rows
  pub first : Bool
  pub ready : IsReady c states totals changes first
  pub many : length states ≡ n
  pub order : List Task
  pub legal : IsLegal c (length states) order
  pub noted : AreNoted ready order lines
