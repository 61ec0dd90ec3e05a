-- A tick from the start on: it is ready, and its pieces are by node and shard.
use Rattle.std.proofs.Common.{◌≡◌, ℕ, ◌≤◌, true, List, length, replicate, ℤ, pos, sym, ap, subst, ◌∙◌, arith}
use Rattle.std.specs.Prelude.{IfOk, Result, Ok, Err}
use Rattle.std.proofs.lemmas.List.{length-replicate}
use Rattle.sq_circuit.specs.Invariant.{IsGood}
use Rattle.sq_circuit.specs.Nodes.{Rows}
use Rattle.sq_circuit.specs.declared.circuit.Part.{Part}
use Rattle.sq_states.specs.Empty.{empty_states}
use Rattle.sq_states.specs.declared.kept.NodeState.{NodeState}
use Rattle.sq_incr.specs.Played.{Answers}
use Rattle.sq_incr.specs.Plays.{HaveShape}
use Rattle.sq_incr.specs.Ready.{IsReady}
use Rattle.sq_incr.specs.declared.pieces.PlayRefusal.{PlayRefusal}
use Rattle.sq_incr.specs.declared.store.Slot.{Slot}
use Rattle.sq_incr.specs.declared.task.Task.{Task}
use Rattle.sq_incr.proofs.Beginning.{starts_ready}

pub ready : (c : List Part) (n nodes : ℕ) (states : List (List NodeState)) (totals : List ℤ) (tables : List Rows) → (1 ≤ n) × (n ≤ 64) → IsGood c tables → states ≡ replicate n (empty_states c) → totals ≡ replicate nodes (pos 0) → nodes ≡ length c → IsReady c states totals tables true
ready c n nodes states totals tables few good is zeros all =
    subst (λ ss. IsReady c ss totals tables true) (sym is)
    (subst (λ ts. IsReady c (replicate n (empty_states c)) ts tables true) (sym (zeros ∙ ap (λ k. replicate k (pos 0)) all))
    (starts_ready c n (omega (arith, few.0)) few.1 tables good))

pub shaped : (c : List Part) (states : List (List NodeState)) (totals : List ℤ) (tables : List Rows) (n : ℕ) → states ≡ replicate n (empty_states c) → (r : IsReady c states totals tables true) (order : List Task) (result : Result (List (List Slot)) PlayRefusal) → Answers r order result → IfOk result (HaveShape (length c) n)
shaped c states totals tables n is r order (Ok pieces) h = record { count = h.count; wide = λ i line e. h.wide i line e ∙ ap length is ∙ length-replicate n (empty_states c) }
shaped c states totals tables n is r order (Err refusal) h = tt
