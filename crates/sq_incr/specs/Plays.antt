-- Tasks played one after the other.
--     HaveShape m n lines      there is a line for each of m nodes, and in it a slot for each of n shards
--     ArePlayed front lines    the slots tell which tasks were played
--     source_played lines s    all tasks of what a source reads were played.     IsWithin m s     a node that is read is below m
--     written lines t slot     the lines with what became of the task t
--     CanTurn ..               what is taken for granted before a task is tried.      IsTurn b t new went     whether it was played, and what is noted then
--     Stops c n order o        an order is legal, or the first task that may not stand where it does has the place o
use Rattle.std.specs.Prelude.{◌≡◌, ℕ, ◌<◌, Bool, true, false, ℤ, List, [], ◌∷◌, ◌++◌, get_or, length, slice_get, slice_set, Option, Some, None, ⊤}
use Rattle.std.specs.List.{list_all}
use Rattle.sq_circuit.specs.Nodes.{Rows, Source, Nowhere, Outer, Inner, read}
use Rattle.sq_circuit.specs.declared.circuit.Part.{Part}
use Rattle.sq_states.specs.declared.kept.NodeState.{NodeState}
use Rattle.sq_incr.specs.Orders.{FirstIllegal, IsLegal, MayStand, is_in, task}
use Rattle.sq_incr.specs.Ready.{IsReady}
use Rattle.sq_incr.specs.Slots.{AreNoted, is_done}
use Rattle.sq_incr.specs.declared.store.Slot.{Slot}
use Rattle.sq_incr.specs.declared.task.Task.{Task}

pub record HaveShape (m n : ℕ) (lines : List (List Slot)) : Type 0 where
  pub count : length lines ≡ m
  pub wide : (i : ℕ) (line : List Slot) → slice_get lines i ≡ Some line → length line ≡ n

abbrev pub ArePlayed : List Task → List (List Slot) → Type 0
ArePlayed front lines = (i s : ℕ) (line : List Slot) (slot : Slot) → slice_get lines i ≡ Some line → slice_get line s ≡ Some slot → is_done slot ≡ is_in front (task i s)

abbrev pub source_played : List (List Slot) → Source → Bool
source_played lines s = read (λ t. true) (λ j. list_all is_done (get_or lines j [])) true s

abbrev pub IsWithin : ℕ → Source → Type 0
IsWithin m Nowhere = ⊤
IsWithin m (Outer t) = ⊤
IsWithin m (Inner j) = j < m

abbrev pub written : List (List Slot) → Task → Slot → List (List Slot)
written lines t slot = slice_set lines t.node (slice_set (get_or lines t.node []) t.shard slot)

abbrev pub Stops : List Part → ℕ → List Task → Option ℕ → Type 0
Stops c n order None = IsLegal c n order
Stops c n order (Some at) = FirstIllegal c n order at

-- ---- a turn
-- what is taken for granted before a task is tried
pub record CanTurn (c : List Part) (states : List (List NodeState)) (totals : List ℤ) (changes : List Rows) (first : Bool) (lines : List (List Slot)) : Type 0 where
  pub ready : IsReady c states totals changes first
  pub front : List Task
  pub noted : AreNoted ready front lines

module _ {c : List Part} {states : List (List NodeState)} {totals : List ℤ} {changes : List Rows} {first : Bool} {lines : List (List Slot)} (b : CanTurn c states totals changes first lines) where
  -- the task may stand there, and it is noted what became of it
  pub record IsTaken (t : Task) (new : List (List Slot)) : Type 0 where
    pub stands : MayStand c (length states) b.front t
    pub noted : AreNoted b.ready (b.front ++ t ∷ []) new

  abbrev pub IsTurn : Task → List (List Slot) → Bool → Type 0
  IsTurn t new true = IsTaken t new
  IsTurn t new false = MayStand c (length states) b.front t → ⊥
