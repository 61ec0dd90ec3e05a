-- What all tasks of an order tell together.
--     IsOpenAt line s          the task of the shard s is the first of a line that was not played
--     IsFirstOpen lines t      t is the first task that was not played, by node and then by shard
--     blamed_owner r i         the owner of the node i, if it is to blame
--     TellsBlame, TellsView    a result says whether a node is to blame, and which view is
use Rattle.std.specs.Prelude.{◌≡◌, ℕ, ℤ, Bool, true, false, cond, List, length, slice_get, take, Option, Some, None, Result, IfOk}
use Rattle.std.specs.List.{list_all}
use Rattle.sq_circuit.specs.Along.{least_below}
use Rattle.sq_circuit.specs.Circuits.{owner_at}
use Rattle.sq_circuit.specs.Nodes.{Rows, Inner}
use Rattle.sq_circuit.specs.declared.circuit.Part.{Part}
use Rattle.sq_states.specs.declared.kept.NodeState.{NodeState}
use Rattle.sq_incr.specs.Inputs.{AreDone}
use Rattle.sq_incr.specs.Ready.{IsReady}
use Rattle.sq_incr.specs.Slots.{AreNoted, is_done, is_to_blame}
use Rattle.sq_incr.specs.declared.store.Slot.{Slot}
use Rattle.sq_incr.specs.declared.task.Task.{Task}

pub record IsOpenAt (line : List Slot) (s : ℕ) : Type 0 where
  pub slot : Slot
  pub at : slice_get line s ≡ Some slot
  pub fresh : is_done slot ≡ false
  pub before : list_all is_done (take s line) ≡ true

pub record IsFirstOpen (lines : List (List Slot)) (t : Task) : Type 0 where
  pub line : List Slot
  pub at : slice_get lines t.node ≡ Some line
  pub here : IsOpenAt line t.shard
  pub before : list_all (list_all is_done) (take t.node lines) ≡ true

abbrev pub blamed_owner : {c : List Part} {states : List (List NodeState)} {totals : List ℤ} {changes : List Rows} {first : Bool} → IsReady c states totals changes first → ℕ → Option ℕ
blamed_owner {c} r i = cond (is_to_blame r i) (owner_at c i) None

-- the results of tests, for each tick that is ready with tasks that were all played
module _ {E : Type 0} (c : List Part) (totals : List ℤ) (lines : List (List Slot)) where
  abbrev pub TellsBlame : ℕ → Result Bool E → Type 0
  TellsBlame i result =
      (states : List (List NodeState)) (changes : List Rows) (first : Bool) (r : IsReady c states totals changes first) (front : List Task) → AreNoted r front lines → AreDone lines (Inner i)
      → IfOk result (λ bad. bad ≡ is_to_blame r i)

  abbrev pub TellsView : Result (Option ℕ) E → Type 0
  TellsView result =
      (states : List (List NodeState)) (changes : List Rows) (first : Bool) (r : IsReady c states totals changes first) (front : List Task) → AreNoted r front lines → list_all (list_all is_done) lines ≡ true
      → IfOk result (λ view. view ≡ least_below (blamed_owner r) (length c))
