-- When a tick is ready: at the start, and after a tick without a fault.
use Rattle.std.proofs.Common.{◌≡◌, ℕ, ◌<◌, ◌≤◌, Bool, true, false, List, length, map, replicate, ℤ, pos, Some, None, refl, sym, ap, subst, ◌∙◌}
use Rattle.std.specs.Prelude.{slice_get}
use Rattle.std.proofs.lemmas.List.{length-map, length-replicate}
use Rattle.std.proofs.lemmas.Option.{same_Some}
use Rattle.sq_value.specs.Order.{row_cmp}
use Rattle.sq_algebra.proofs.Weights.{total-zero}
use Rattle.sq_zset.specs.GroupLaws.{rows_are_abelian}
use Rattle.sq_circuit.specs.Circuits.{node_in, table_at}
use Rattle.sq_circuit.specs.Invariant.{IsGood}
use Rattle.sq_circuit.specs.Nodes.{Rows}
use Rattle.sq_circuit.specs.declared.circuit.Part.{Part}
use Rattle.sq_shard.specs.Shards.{shards}
use Rattle.sq_states.specs.Empty.{empty_state, empty_states}
use Rattle.sq_states.specs.declared.kept.NodeState.{NodeState}
use Rattle.sq_states.proofs.Starting.{begins_empty, state_of_node}
use Rattle.sq_incr.specs.Ready.{IsKept, IsReady, Keeps, KeepsPart, StartsReady, StaysReady}
use Rattle.sq_incr.proofs.Noting.{got_same}

module _ (c : List Part) (n : ℕ) (tables : List Rows) where
  empty_kept : (i s : ℕ) (p : Part) (kept : NodeState) → slice_get c i ≡ Some p → IsKept (replicate n (empty_states c)) i s kept → KeepsPart true c tables (length (replicate n (empty_states c))) p s kept
  empty_kept i s p kept e is =
      let shard = got_same n (empty_states c) is.shard s is.of_shard in
      let same = same_Some (empty_state p.node) kept (sym (state_of_node c i p.node (ap node_in e)) ∙ ap (λ ks. slice_get ks i) (sym shard) ∙ is.of_node) in
      subst (KeepsPart true c tables (length (replicate n (empty_states c))) p s) same (begins_empty (shards (length (replicate n (empty_states c)))) s p.node)

  empty_keeps : Keeps true c tables (replicate n (empty_states c)) (replicate (length c) (pos 0))
  empty_keeps = record {
    nodes = λ s shard e. ap length (got_same n (empty_states c) shard s e) ∙ length-map c (λ p. empty_state p.node);
    each = empty_kept;
    totals_count = length-replicate (length c) (pos 0);
    total_of = λ i t e. got_same (length c) (pos 0) t i e ∙ sym (total-zero row_cmp);
  }

pub starts_ready : (c : List Part) → StartsReady c
starts_ready c n above few changes good = record {
  old = changes;
  new = changes;
  some = subst (λ k. 0 < k) (sym (length-replicate n (empty_states c))) above;
  few = subst (λ k. k ≤ 64) (sym (length-replicate n (empty_states c))) few;
  keeps = empty_keeps c n changes;
  was_good = λ later. absurd (cc later);
  was_clear = λ later. absurd (cc later);
  tables = good.count;
  changed = λ t. sym (rows_are_abelian.neutral (table_at changes t));
  good = good;
}

pub stays_ready : (c : List Part) → StaysReady c
stays_ready c states totals old new changes above few keeps was_good was_clear count changed good = record {
  old = old;
  new = new;
  some = above;
  few = few;
  keeps = keeps;
  was_good = λ later. was_good;
  was_clear = λ later. was_clear;
  tables = count;
  changed = changed;
  good = good;
}
