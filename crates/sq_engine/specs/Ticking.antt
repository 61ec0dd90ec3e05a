-- A tick of an engine: what is prepared of it, and what is there once that was put in place.
--     EachAt P xs n            n members, each with what P says of its place
--     all_of nodes n           all tasks of so many nodes in n shards
--     line_at pieces i         what is noted of the tasks of the node i
--     line_total line          the sum of the totals of their changes
--     AreWide n pieces         there is a task for each of n shards
--     node_change r i          what the node i has more than before
--     CanPutNode, CanPutShard, CanPutAll      what was prepared can be put in place
--     ArePut before ready now       it was put in place in a shard.     AreAllPut .. in all shards
--     CanPrepareAll nodes states pieces      each piece can be prepared in the state of its shard
--     IsPrepared r ready sums views          what is prepared of a tick
use Rattle.std.specs.Prelude.{◌≡◌, ℕ, ℤ, ◌+ℤ◌, Bool, List, [], get_or, length, slice_get, Some}
use Rattle.std.specs.Int.{int_wrap, w128}
use Rattle.std.specs.List.{flat_map}
use Rattle.sq_algebra.specs.Groups.{integers, sum_over}
use Rattle.sq_algebra.specs.Keyed.{numbers_below}
use Rattle.sq_algebra.specs.ZSet.{minus, total}
use Rattle.sq_circuit.specs.Along.{each_below}
use Rattle.sq_circuit.specs.Circuits.{whole}
use Rattle.sq_circuit.specs.Costs.{before}
use Rattle.sq_circuit.specs.Invariant.{view_count}
use Rattle.sq_circuit.specs.Nodes.{Rows}
use Rattle.sq_circuit.specs.declared.circuit.Part.{Part}
use Rattle.sq_states.specs.Committing.{CanCommit, IsReadyFor, StaysInRange, state_after}
use Rattle.sq_states.specs.declared.kept.NodeState.{NodeState}
use Rattle.sq_states.specs.declared.piece.Piece.{Piece}
use Rattle.sq_states.specs.declared.ready.Ready.{Ready}
use Rattle.sq_incr.specs.Orders.{task, tasks_of}
use Rattle.sq_incr.specs.Played.{HasPiece, IsPlayed}
use Rattle.sq_incr.specs.Ready.{IsKept, IsReady}
use Rattle.sq_incr.specs.Slots.{change_in}
use Rattle.sq_incr.specs.declared.store.Slot.{Slot}
use Rattle.sq_incr.specs.declared.task.Task.{Task}
use Rattle.sq_engine.specs.Engines.{view_node}

-- ---- lists by place
pub record EachAt {A : Type 0} (P : ℕ → A → Type 0) (xs : List A) (n : ℕ) : Type 0 where
  pub count : length xs ≡ n
  pub each : (i : ℕ) (x : A) → slice_get xs i ≡ Some x → P i x

abbrev pub all_of : ℕ → ℕ → List Task
all_of nodes n = flat_map (tasks_of n) (numbers_below nodes)

-- ---- pieces
abbrev pub line_at : List (List Slot) → ℕ → List Slot
line_at pieces i = get_or pieces i []

abbrev pub line_total : List Slot → ℤ
line_total line = sum_over integers (λ slot. total (change_in slot)) line

abbrev pub AreWide : ℕ → List (List Slot) → Type 0
AreWide n pieces = (i : ℕ) (line : List Slot) → slice_get pieces i ≡ Some line → length line ≡ n

-- the totals after a tick, as 128 bits have them
abbrev pub IsRaised : List ℤ → List (List Slot) → ℕ → ℤ → Type 0
IsRaised totals pieces i sum = (old : ℤ) → slice_get totals i ≡ Some old → sum ≡ int_wrap w128 (old +ℤ line_total (line_at pieces i))

-- ---- preparing
pub record CanPrepareAll (nodes : ℕ) (states : List (List NodeState)) (pieces : List (List Slot)) : Type 0 where
  pub count : length pieces ≡ nodes
  pub wide : AreWide (length states) pieces
  pub long : (s : ℕ) (shard : List NodeState) → slice_get states s ≡ Some shard → length shard ≡ nodes
  pub stays : (i s : ℕ) (piece : Piece) (kept : NodeState) → HasPiece pieces (task i s) piece → IsKept states i s kept → StaysInRange kept piece.kept

-- what is prepared of a node in a shard
pub record IsReadyNode (pieces : List (List Slot)) (s : ℕ) (shard : List NodeState) (i : ℕ) (one : Ready) : Type 0 where
  pub node : one.node ≡ i
  pub ready : (piece : Piece) (kept : NodeState) → HasPiece pieces (task i s) piece → slice_get shard i ≡ Some kept → IsReadyFor kept piece.kept one.traces

abbrev pub IsReadyShard : List (List Slot) → List (List NodeState) → ℕ → List Ready → Type 0
IsReadyShard pieces states s readies = (shard : List NodeState) → slice_get states s ≡ Some shard → EachAt (IsReadyNode pieces s shard) readies (length shard)

-- ---- putting in place
pub record CanPutNode (shard : List NodeState) (i : ℕ) (one : Ready) : Type 0 where
  pub node : one.node ≡ i
  pub can : (kept : NodeState) → slice_get shard i ≡ Some kept → CanCommit kept one.traces

abbrev pub CanPutShard : List NodeState → List Ready → Type 0
CanPutShard shard readies = EachAt (CanPutNode shard) readies (length shard)

abbrev pub CanPutAll : List (List NodeState) → List (List Ready) → Type 0
CanPutAll states ready = EachAt (λ s readies. (shard : List NodeState) → slice_get states s ≡ Some shard → CanPutShard shard readies) ready (length states)

-- members of a list were put in place, each by the step
pub record ArePutBy {A R : Type 0} (Step : A → R → A → Type 0) (old : List A) (ready : List R) (now : List A) : Type 0 where
  pub count : length now ≡ length old
  pub each : (i : ℕ) (was : A) (one : R) (is : A) → slice_get old i ≡ Some was → slice_get ready i ≡ Some one → slice_get now i ≡ Some is → Step was one is

abbrev pub IsPut : NodeState → Ready → NodeState → Type 0
IsPut was one is = is ≡ state_after was one.traces

abbrev pub ArePut : List NodeState → List Ready → List NodeState → Type 0
ArePut old ready now = ArePutBy IsPut old ready now

abbrev pub AreAllPut : List (List NodeState) → List (List Ready) → List (List NodeState) → Type 0
AreAllPut old ready now = ArePutBy ArePut old ready now

-- ---- a tick
module _ {c : List Part} {states : List (List NodeState)} {totals : List ℤ} {changes : List Rows} {first : Bool} (r : IsReady c states totals changes first) where
  abbrev pub node_change : ℕ → Rows
  node_change i = minus (whole c r.new i) (before first (whole c r.old i))

  pub record IsPrepared (ready : List (List Ready)) (sums : List ℤ) (views : List Rows) : Type 0 where
    pub order : List Task
    pub pieces : List (List Slot)
    pub played : IsPlayed r order pieces
    pub prepared : EachAt (IsReadyShard pieces states) ready (length states)
    pub raised : EachAt (IsRaised totals pieces) sums (length totals)
    pub views_are : views ≡ each_below (λ v. node_change (view_node c v)) (view_count c)
