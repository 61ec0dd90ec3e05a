-- Once all pieces were committed, the states keep what belongs to the new tables, and the totals are theirs.
use Rattle.std.proofs.Common.{◌≡◌, ℕ, ◌<◌, Bool, true, false, List, length, ℤ, ◌+ℤ◌, Some, refl, sym, ap, subst, ◌∙◌}
use Rattle.std.specs.Prelude.{slice_get}
use Rattle.std.proofs.lemmas.Option.{slice_get_within}
use Rattle.sq_algebra.specs.Groups.{integers}
use Rattle.sq_algebra.specs.Keyed.{over_shards}
use Rattle.sq_algebra.specs.ZSet.{total}
use Rattle.sq_circuit.specs.Circuits.{table_at}
use Rattle.sq_circuit.specs.Invariant.{IsCircuit}
use Rattle.sq_circuit.specs.Nodes.{Rows}
use Rattle.sq_circuit.specs.declared.circuit.Part.{Part}
use Rattle.sq_shard.specs.Shards.{shards}
use Rattle.sq_states.specs.declared.kept.NodeState.{NodeState}
use Rattle.sq_states.specs.declared.piece.Piece.{Piece}
use Rattle.sq_incr.specs.Commits.{AreCommitted}
use Rattle.sq_incr.specs.Orders.{task}
use Rattle.sq_incr.specs.Played.{HasPiece, IsPlayed}
use Rattle.sq_incr.specs.Ready.{IsKept, IsReady, Keeps, KeepsPart}
use Rattle.sq_incr.specs.Slots.{is_run, piece_at}
use Rattle.sq_incr.specs.declared.store.Slot.{Slot}
use Rattle.sq_incr.specs.declared.store.Slot.TheVariants.{Open, Skipped, Broken, Ran}
use Rattle.sq_incr.specs.declared.task.Task.{Task}
use Rattle.sq_incr.proofs.Blaming.{totals}
use Rattle.sq_incr.proofs.Noting.{there_is}
use Rattle.sq_incr.proofs.Taking.{tick}

ran_piece : (slot : Slot) → is_run slot ≡ true → (piece : Piece) × (slot ≡ Ran piece)
ran_piece Open run = absurd (cc run)
ran_piece Skipped run = absurd (cc run)
ran_piece Broken run = absurd (cc run)
ran_piece (Ran piece) run = (piece, refl)

module _ (c : List Part) (states : List (List NodeState)) (sums : List ℤ) (changes : List Rows) (first : Bool) (circuit : IsCircuit c) (r : IsReady c states sums changes first) (order : List Task) (pieces : List (List Slot)) (played : IsPlayed r order pieces)
    (now : List (List NodeState)) (after : List ℤ) (done : AreCommitted r pieces now after) where
  piece_there : (i s : ℕ) → i < length c → s < length states → (piece : Piece) × HasPiece pieces (task i s) piece
  piece_there i s low inside =
      let line = there_is pieces i (subst (λ k. i < k) (sym played.count) low) in
      let slot = there_is line.0 s (subst (λ k. s < k) (sym (played.wide i line.0 line.1)) inside) in
      let ran = ran_piece slot.0 (played.ran i s line.0 slot.0 line.1 slot.1) in
      (ran.0, record { line = line.0; at = line.1; is = slot.1 ∙ ap Some ran.1 })

  kept_there : (i s : ℕ) → i < length c → s < length states → (kept : NodeState) × IsKept states i s kept
  kept_there i s low inside =
      let shard = there_is states s inside in
      let kept = there_is shard.0 i (subst (λ k. i < k) (sym (r.keeps.nodes s shard.0 shard.1)) low) in
      (kept.0, record { shard = shard.0; of_shard = shard.1; of_node = kept.1 })

  keeps_each : (i s : ℕ) (p : Part) (kept : NodeState) → slice_get c i ≡ Some p → IsKept now i s kept → KeepsPart false c r.new (length now) p s kept
  keeps_each i s p kept e is =
      let low = slice_get_within c i p e in
      let inside : s < length states = subst (λ k. s < k) done.shard_count (slice_get_within now s is.shard is.of_shard) in
      let piece = piece_there i s low inside in
      let before = kept_there i s low inside in
      subst (λ n. KeepsPart false c r.new n p s kept) (sym done.shard_count) ((played.made (task i s) piece.0 piece.1).keeps p before.0 kept e before.1 (done.each i s piece.0 before.0 kept piece.1 before.1 is))

  pub kept_now : Keeps false c r.new now after
  kept_now = record {
    nodes = done.nodes;
    each = keeps_each;
    totals_count = done.sums_count;
    total_of = λ i t got.
        let old = there_is sums i (subst (λ k. i < k) (sym r.keeps.totals_count) (subst (λ k. i < k) done.sums_count (slice_get_within after i t got))) in
        done.sum_of i old.0 t old.1 got
        ∙ ap (λ a. a +ℤ over_shards integers (shards (length states)) (λ s. total (piece_at r i s))) (r.keeps.total_of i old.0 old.1)
        ∙ totals first c (length states) r.old (table_at changes) r.new (tick circuit r) i;
  }
