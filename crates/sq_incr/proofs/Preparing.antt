-- The piece of each task can be prepared in the state of its shard.
use Rattle.std.proofs.Common.{◌≡◌, ◌<◌, ℕ, Bool, List, length, ℤ, Some, sym, subst, ◌∙◌}
use Rattle.std.specs.Prelude.{slice_get}
use Rattle.std.proofs.lemmas.Option.{slice_get_within}
use Rattle.sq_circuit.specs.Nodes.{Rows}
use Rattle.sq_circuit.specs.declared.circuit.Part.{Part}
use Rattle.sq_states.specs.declared.kept.NodeState.{NodeState}
use Rattle.sq_states.specs.declared.piece.Piece.{Piece}
use Rattle.sq_incr.specs.Commits.{CanPrepare}
use Rattle.sq_incr.specs.Played.{HasPiece, IsPlayed}
use Rattle.sq_incr.specs.Ready.{IsReady}
use Rattle.sq_incr.specs.declared.store.Slot.{Slot}
use Rattle.sq_incr.specs.declared.task.Task.{Task}
use Rattle.sq_incr.proofs.Noting.{there_is}

module _ (c : List Part) (states : List (List NodeState)) (totals : List ℤ) (changes : List Rows) (first : Bool) (r : IsReady c states totals changes first) (order : List Task) (pieces : List (List Slot)) (played : IsPlayed r order pieces)
    (t : Task) (piece : Piece) (has : HasPiece pieces t piece) (shard : List NodeState) (of_shard : slice_get states t.shard ≡ Some shard) where
  low : t.node < length c
  low = subst (λ k. t.node < k) played.count (slice_get_within pieces t.node has.line has.at)

  pub can_prepare : CanPrepare shard t.node piece.kept
  can_prepare =
      let part = there_is c t.node low in
      record {
        inside = subst (λ k. t.node < k) (sym (r.keeps.nodes t.shard shard of_shard)) low;
        in_range = λ kept got. (played.made t piece has).stays part.0 kept part.1 (record { shard = shard; of_shard = of_shard; of_node = got });
      }
