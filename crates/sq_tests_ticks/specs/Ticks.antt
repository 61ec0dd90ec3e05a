-- Ticks of a circuit over shards: what is kept between them, what is prepared, and what is there once that was put in place.
--     EachAt P xs n            n members, each with what P says of its place
--     AreWide n pieces         there is a task for each of n shards
--     CanPrepareAll nodes states pieces      each piece can be prepared in the state of its shard
--     CanPutNode, CanPutShard, CanPutAll      what was prepared can be put in place
--     ArePut before ready now       it was put in place in a shard.     AreAllPut .. in all shards
--     IsLive first c tables states totals    what is kept of these tables; `first` is true before anything was there
--     IsStep first c old changes new         changes of tables that leave good ones
--     ready_of live step       the tick is ready.      IsDone ..     and it was played in an order, which left these pieces
use Rattle.std.specs.Prelude.{◌≡◌, ℕ, ◌<◌, ◌≤◌, ℤ, Bool, false, List, length, slice_get, Some, None}
use Rattle.sq_algebra.specs.ZSet.{plus, total}
use Rattle.sq_circuit.specs.Circuits.{table_at, verdict}
use Rattle.sq_circuit.specs.Invariant.{IsGood, table_count}
use Rattle.sq_circuit.specs.Nodes.{Rows}
use Rattle.sq_circuit.specs.Pieces.{AreChanged}
use Rattle.sq_circuit.specs.declared.circuit.Part.{Part}
use Rattle.sq_states.specs.Committing.{CanCommit, IsReadyFor, StaysInRange, state_after}
use Rattle.sq_states.specs.declared.kept.NodeState.{NodeState}
use Rattle.sq_states.specs.declared.piece.Piece.{Piece}
use Rattle.sq_states.specs.declared.ready.Ready.{Ready}
use Rattle.sq_incr.specs.Orders.{task}
use Rattle.sq_incr.specs.Played.{Answers, HasPiece, IsPlayed}
use Rattle.sq_incr.specs.Ready.{IsKept, IsReady, Keeps}
use Rattle.sq_incr.specs.declared.pieces.PlayRefusal.{PlayRefusal}
use Rattle.sq_incr.specs.declared.store.Slot.{Slot}
use Rattle.sq_incr.specs.declared.task.Task.{Task}
use Rattle.std.specs.Prelude.{Result}

-- ---- lists by place
pub record EachAt {A : Type 0} (P : ℕ → A → Type 0) (xs : List A) (n : ℕ) : Type 0 where
  pub count : length xs ≡ n
  pub each : (i : ℕ) (x : A) → slice_get xs i ≡ Some x → P i x

-- ---- pieces
abbrev pub AreWide : ℕ → List (List Slot) → Type 0
AreWide n pieces = (i : ℕ) (line : List Slot) → slice_get pieces i ≡ Some line → length line ≡ n

-- ---- preparing
pub record CanPrepareAll (nodes : ℕ) (states : List (List NodeState)) (pieces : List (List Slot)) : Type 0 where
  pub count : length pieces ≡ nodes
  pub wide : AreWide (length states) pieces
  pub long : (s : ℕ) (shard : List NodeState) → slice_get states s ≡ Some shard → length shard ≡ nodes
  pub stays : (i s : ℕ) (piece : Piece) (kept : NodeState) → HasPiece pieces (task i s) piece → IsKept states i s kept → StaysInRange kept piece.kept

-- what is prepared of a node in a shard
pub record IsReadyNode (pieces : List (List Slot)) (s : ℕ) (shard : List NodeState) (i : ℕ) (one : Ready) : Type 0 where
  pub node : one.node ≡ i
  pub ready : (piece : Piece) (kept : NodeState) → HasPiece pieces (task i s) piece → slice_get shard i ≡ Some kept → IsReadyFor kept piece.kept one.traces

abbrev pub IsReadyShard : List (List Slot) → List (List NodeState) → ℕ → List Ready → Type 0
IsReadyShard pieces states s readies = (shard : List NodeState) → slice_get states s ≡ Some shard → EachAt (IsReadyNode pieces s shard) readies (length shard)

-- ---- putting in place
pub record CanPutNode (shard : List NodeState) (i : ℕ) (one : Ready) : Type 0 where
  pub node : one.node ≡ i
  pub can : (kept : NodeState) → slice_get shard i ≡ Some kept → CanCommit kept one.traces

abbrev pub CanPutShard : List NodeState → List Ready → Type 0
CanPutShard shard readies = EachAt (CanPutNode shard) readies (length shard)

abbrev pub CanPutAll : List (List NodeState) → List (List Ready) → Type 0
CanPutAll states ready = EachAt (λ s readies. (shard : List NodeState) → slice_get states s ≡ Some shard → CanPutShard shard readies) ready (length states)

-- members of a list were put in place, each by the step
pub record ArePutBy {A R : Type 0} (Step : A → R → A → Type 0) (old : List A) (ready : List R) (now : List A) : Type 0 where
  pub count : length now ≡ length old
  pub each : (i : ℕ) (was : A) (one : R) (is : A) → slice_get old i ≡ Some was → slice_get ready i ≡ Some one → slice_get now i ≡ Some is → Step was one is

abbrev pub IsPut : NodeState → Ready → NodeState → Type 0
IsPut was one is = is ≡ state_after was one.traces

abbrev pub ArePut : List NodeState → List Ready → List NodeState → Type 0
ArePut old ready now = ArePutBy IsPut old ready now

abbrev pub AreAllPut : List (List NodeState) → List (List Ready) → List (List NodeState) → Type 0
AreAllPut old ready now = ArePutBy ArePut old ready now

-- ---- tables
abbrev pub IsCopyAt : List Rows → ℕ → Rows → Type 0
IsCopyAt tables t z = z ≡ table_at tables t

abbrev pub IsPlusAt : List Rows → List Rows → ℕ → Rows → Type 0
IsPlusAt tables changes t z = z ≡ plus (table_at tables t) (table_at changes t)

-- the total of each of the values
abbrev pub IsTotalAt : List Rows → ℕ → ℤ → Type 0
IsTotalAt values i n = (z : Rows) → slice_get values i ≡ Some z → n ≡ total z

-- ---- a tick
pub record IsLive (first : Bool) (c : List Part) (tables : List Rows) (states : List (List NodeState)) (totals : List ℤ) : Type 0 where
  pub some : 0 < length states
  pub few : length states ≤ 64
  pub keeps : Keeps first c tables states totals
  pub was_good : first ≡ false → IsGood c tables
  pub was_clear : first ≡ false → verdict c tables ≡ None

pub record IsStep (first : Bool) (c : List Part) (old changes new : List Rows) : Type 0 where
  pub tables : length changes ≡ table_count c
  pub changed : AreChanged first old (table_at changes) new
  pub good : IsGood c new

module _ {first : Bool} {c : List Part} {old changes new : List Rows} {states : List (List NodeState)} {totals : List ℤ} (live : IsLive first c old states totals) (step : IsStep first c old changes new) where
  abbrev pub ready_of : IsReady c states totals changes first
  ready_of = record {
    old = old;
    new = new;
    some = live.some;
    few = live.few;
    keeps = live.keeps;
    was_good = live.was_good;
    was_clear = live.was_clear;
    tables = step.tables;
    changed = step.changed;
    good = step.good;
  }

module _ (first : Bool) (c : List Part) (old changes new : List Rows) (states : List (List NodeState)) (totals : List ℤ) (order : List Task) where
  -- what play answers, whatever shows that the tick is ready
  abbrev pub IsAnswer : Result (List (List Slot)) PlayRefusal → Type 0
  IsAnswer result = (live : IsLive first c old states totals) (step : IsStep first c old changes new) → Answers (ready_of live step) order result

  pub record IsDone (pieces : List (List Slot)) : Type 0 where
    pub live : IsLive first c old states totals
    pub step : IsStep first c old changes new
    pub played : IsPlayed (ready_of live step) order pieces
