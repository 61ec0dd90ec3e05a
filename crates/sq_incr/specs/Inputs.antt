-- What the tasks of a node read, from what is noted of those of other nodes.
--     source_of input              the source that an `Input` stands for
--     summed line, IsSum line o    the sum of the changes of a line, if all its tasks ran and it is in range
--     AreSmall c totals            a place held at most 2^61 rows
--     is_full place total z        a place with this total holds too many rows after the change z
--     fitting place total o        the change that is left of one, if the place does not hold too many rows after it
--     IsThere ..                   what is asked of a source before it is read
--     IsChange r s o               how what a source holds has changed, if it is sound over the new tables
--     TellsChange .. result        a result says that
--     AreDone lines s              all tasks of what a source reads were played
--     HaveLeftKeys, HaveRightKeys n z     rows that the node reads have the columns of its key.      is_own n s e     an entry belongs to the shard s by its row
--     IsInside n s                 a source is below n
use Rattle.std.specs.Prelude.{◌≡◌, ℕ, ◌^◌, ℤ, pos, ◌<◌, ◌==◌, ◌+ℤ◌, ◌≤ℤ◌, int_lt, Bool, true, false, ◌&&◌, if◌then◌else◌, List, map, length, slice_get, Option, Some, None, Result, IfOk, ⊤}
use Rattle.std.specs.List.{All, list_all}
use Rattle.sq_value.specs.declared.value.Value.{Value}
use Rattle.sq_value.specs.Order.{row_cmp}
use Rattle.sq_algebra.specs.Groups.{sum_over, z_sets}
use Rattle.sq_algebra.specs.ZSet.{entries, total}
use Rattle.sq_circuit.specs.Circuits.{place_at}
use Rattle.sq_circuit.specs.Nodes.{Rows, Source, Nowhere, Outer, Inner}
use Rattle.sq_circuit.specs.Verdicts.{source_sound}
use Rattle.sq_circuit.specs.declared.circuit.Part.{Part}
use Rattle.sq_circuit.specs.declared.node.Node.{Node}
use Rattle.sq_circuit.specs.declared.node.Node.TheVariants.{Table, Linear, Join, Distinct, Aggregate, Plus, Minus, View}
use Rattle.sq_ops.specs.Aggregates.{group_columns}
use Rattle.sq_shard.specs.Shards.{HasColumns, shard_number}
use Rattle.sq_zset.specs.Range.{IsInRange}
use Rattle.sq_states.specs.declared.kept.NodeState.{NodeState}
use Rattle.sq_incr.specs.Ready.{IsReady, change_at}
use Rattle.sq_incr.specs.Slots.{AreNoted, change_in, is_done, is_run}
use Rattle.sq_incr.specs.declared.inputs.Input.{Input}
use Rattle.sq_incr.specs.declared.inputs.Input.TheVariants as input
use Rattle.sq_incr.specs.declared.store.Slot.{Slot}
use Rattle.sq_incr.specs.declared.task.Task.{Task}

abbrev pub source_of : Input → Source
source_of input.Nothing = Nowhere
source_of (input.Table t) = Outer t
source_of (input.Node i) = Inner i

-- ---- the change of a node
abbrev pub summed : List Slot → Rows
summed line = sum_over (z_sets row_cmp) (λ y. y) (map change_in line)

abbrev pub IsSum : List Slot → Option Rows → Type 0
IsSum line None = list_all is_run line ≡ true → IsInRange (summed line) → ⊥
IsSum line (Some z) = (list_all is_run line ≡ true) × (z ≡ summed line)

pub record IsSmall (t : ℤ) : Type 0 where
  pub low : pos 0 ≤ℤ t
  pub high : t ≤ℤ pos (2 ^ 61)

abbrev pub AreSmall : List Part → List ℤ → Type 0
AreSmall c totals = (i : ℕ) (t : ℤ) → slice_get totals i ≡ Some t → place_at c i ≡ true → IsSmall t

abbrev pub is_full : Bool → ℤ → Rows → Bool
is_full place t z = place && int_lt (pos (2 ^ 61)) (t +ℤ total z)

-- a change, if the place does not hold too many rows after it
abbrev pub fitting : Bool → ℤ → Option Rows → Option Rows
fitting place t None = None
fitting place t (Some z) = if is_full place t z then None else Some z

-- ---- a source
-- what is asked before a source is read
pub record IsLine (c : List Part) (totals : List ℤ) (lines : List (List Slot)) (n i : ℕ) : Type 0 where
  pub node : i < length c
  pub total_there : i < length totals
  pub there : i < length lines
  pub wide : (line : List Slot) → slice_get lines i ≡ Some line → length line ≡ n

abbrev pub IsThere : List Part → List ℤ → List Rows → List (List Slot) → ℕ → Source → Type 0
IsThere c totals changes lines n Nowhere = ⊤
IsThere c totals changes lines n (Outer t) = t < length changes
IsThere c totals changes lines n (Inner i) = IsLine c totals lines n i

module _ {c : List Part} {states : List (List NodeState)} {totals : List ℤ} {changes : List Rows} {first : Bool} (r : IsReady c states totals changes first) where
  pub record Rises (s : Source) (z : Rows) : Type 0 where
    pub sound : source_sound c r.new s ≡ true
    pub is : z ≡ change_at r s

  abbrev pub IsChange : Source → Option Rows → Type 0
  IsChange s None = source_sound c r.new s ≡ false
  IsChange s (Some z) = Rises s z

abbrev pub AreDone : List (List Slot) → Source → Type 0
AreDone lines Nowhere = ⊤
AreDone lines (Outer t) = ⊤
AreDone lines (Inner j) = (line : List Slot) → slice_get lines j ≡ Some line → list_all is_done line ≡ true

-- ---- keys
-- each row has these columns
abbrev pub HaveColumns : List ℕ → Rows → Type 0
HaveColumns columns z = All (λ e. HasColumns columns e.0) (entries z)

-- the rows that a node reads on each side have the columns of its key
abbrev pub HaveLeftKeys : Node → Rows → Type 0
HaveLeftKeys (Table t) z = ⊤
HaveLeftKeys (Linear j op) z = ⊤
HaveLeftKeys (Join l r op) z = HaveColumns op.left z
HaveLeftKeys (Distinct j) z = ⊤
HaveLeftKeys (Aggregate j spec) z = HaveColumns (group_columns spec) z
HaveLeftKeys (Plus l r) z = ⊤
HaveLeftKeys (Minus l r) z = ⊤
HaveLeftKeys (View j v) z = ⊤

abbrev pub HaveRightKeys : Node → Rows → Type 0
HaveRightKeys (Table t) z = ⊤
HaveRightKeys (Linear j op) z = ⊤
HaveRightKeys (Join l r op) z = HaveColumns op.right z
HaveRightKeys (Distinct j) z = ⊤
HaveRightKeys (Aggregate j spec) z = ⊤
HaveRightKeys (Plus l r) z = ⊤
HaveRightKeys (Minus l r) z = ⊤
HaveRightKeys (View j v) z = ⊤

-- whether an entry belongs to the shard s, by its whole row
abbrev pub is_own : ℕ → ℕ → List Value × ℤ → Bool
is_own n s e = s == shard_number n e.0

-- the nodes that a node reads are there
abbrev pub IsInside : ℕ → Source → Type 0
IsInside n Nowhere = ⊤
IsInside n (Outer t) = ⊤
IsInside n (Inner j) = j < n

-- the result is how what a source holds has changed, for each tick that is ready with these changes
abbrev pub TellsChange : {E : Type 0} → List Part → List ℤ → List Rows → List (List Slot) → Source → Result (Option Rows) E → Type 0
TellsChange c totals changes lines s result =
    (states : List (List NodeState)) (first : Bool) (r : IsReady c states totals changes first) (front : List Task) → AreNoted r front lines → AreDone lines s → IfOk result (IsChange r s)
