-- What is there before the pieces are committed, and once all of them were.
--     CanPrepare shard i d     the state of a shard has the node i, whose traces stay in range with the change d: what `States::prepare` asks
--     PiecesCanBePrepared c    so it is of the piece of each task, in its shard
--     AreCommitted r pieces states totals      each state took the changes of its piece, and each total those of the pieces of its node
--     CommitsKeepNew c         then the states keep what belongs to the new tables, and the totals are theirs
use Rattle.std.specs.Prelude.{◌≡◌, ℕ, ◌<◌, ℤ, ◌+ℤ◌, Bool, false, List, length, slice_get, Some}
use Rattle.sq_algebra.specs.Groups.{integers}
use Rattle.sq_algebra.specs.Keyed.{over_shards}
use Rattle.sq_algebra.specs.ZSet.{total}
use Rattle.sq_circuit.specs.Nodes.{Rows}
use Rattle.sq_circuit.specs.declared.circuit.Part.{Part}
use Rattle.sq_shard.specs.Shards.{shards}
use Rattle.sq_states.specs.Committing.{StaysInRange}
use Rattle.sq_states.specs.Keeps.{IsChanged}
use Rattle.sq_states.specs.declared.kept.NodeState.{NodeState}
use Rattle.sq_states.specs.declared.piece.Piece.{Piece}
use Rattle.sq_states.specs.declared.piece.StateChange.{StateChange}
use Rattle.sq_incr.specs.Orders.{task}
use Rattle.sq_incr.specs.Played.{HasPiece, IsPlayed}
use Rattle.sq_incr.specs.Ready.{IsKept, IsReady, Keeps}
use Rattle.sq_incr.specs.Slots.{piece_at}
use Rattle.sq_incr.specs.declared.store.Slot.{Slot}
use Rattle.sq_incr.specs.declared.task.Task.{Task}

-- ---- before
pub record CanPrepare (shard : List NodeState) (i : ℕ) (d : StateChange) : Type 0 where
  pub inside : i < length shard
  pub in_range : (kept : NodeState) → slice_get shard i ≡ Some kept → StaysInRange kept d

abbrev pub PiecesCanBePrepared : List Part → Type 0
PiecesCanBePrepared c =
    (states : List (List NodeState)) (totals : List ℤ) (changes : List Rows) (first : Bool) (r : IsReady c states totals changes first) (order : List Task) (pieces : List (List Slot)) → IsPlayed r order pieces
    → (t : Task) (piece : Piece) → HasPiece pieces t piece → (shard : List NodeState) → slice_get states t.shard ≡ Some shard → CanPrepare shard t.node piece.kept

-- ---- afterwards
module _ {c : List Part} {states : List (List NodeState)} {totals : List ℤ} {changes : List Rows} {first : Bool} (r : IsReady c states totals changes first) where
  pub record AreCommitted (pieces : List (List Slot)) (now : List (List NodeState)) (sums : List ℤ) : Type 0 where
    pub shard_count : length now ≡ length states
    pub nodes : (s : ℕ) (shard : List NodeState) → slice_get now s ≡ Some shard → length shard ≡ length c
    pub each : (i s : ℕ) (piece : Piece) (before after : NodeState) → HasPiece pieces (task i s) piece → IsKept states i s before → IsKept now i s after → IsChanged before piece.kept after
    pub sums_count : length sums ≡ length c
    pub sum_of : (i : ℕ) (old new : ℤ) → slice_get totals i ≡ Some old → slice_get sums i ≡ Some new → new ≡ old +ℤ over_shards integers (shards (length states)) (λ s. total (piece_at r i s))

-- then they keep what belongs to the new tables
abbrev pub CommitsKeepNew : List Part → Type 0
CommitsKeepNew c =
    (states : List (List NodeState)) (totals : List ℤ) (changes : List Rows) (first : Bool) (r : IsReady c states totals changes first) (order : List Task) (pieces : List (List Slot)) → IsPlayed r order pieces
    → (now : List (List NodeState)) (sums : List ℤ) → AreCommitted r pieces now sums → Keeps false c r.new now sums
