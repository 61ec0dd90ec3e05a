-- The steps of tables and of DISTINCT, from what the traces hold.
use Rattle.std.proofs.Common.{◌≡◌, ℕ, ◌+◌, ◌≤◌, Bool, List, length, Some, refl, sym, ap, subst, ◌∙◌, ℤ}
use Rattle.std.specs.Prelude.{Ok}
use Rattle.sq_algebra.specs.Keyed.{cut}
use Rattle.sq_algebra.specs.Operators.{distinct}
use Rattle.sq_algebra.specs.ZSet.{entries, minus, plus}
use Rattle.sq_agg.specs.Stepping.{KeptWeights}
use Rattle.sq_zset.specs.Range.{IsInRange}
use Rattle.sq_circuit.specs.Nodes.{Rows}
use Rattle.sq_circuit.specs.declared.node.Node.TheVariants.{Table, Distinct}
use Rattle.sq_distinct.specs.Stepping.{HoldsRows}
use Rattle.sq_trace.specs.declared.entry.Entry.{Entry}
use Rattle.sq_states.specs.Entering.{IsChangeOf}
use Rattle.sq_states.specs.Keeps.{IsChanged, OnRows, change_kind, state_kind}
use Rattle.sq_states.specs.Steps.{IsStepped, NodeStep, cost_of}
use Rattle.sq_states.specs.declared.kept.NodeState.{NodeState}
use Rattle.sq_states.specs.declared.kept.NodeState.TheVariants as state
use Rattle.sq_states.specs.declared.piece.Piece.{Piece}
use Rattle.sq_states.specs.declared.piece.StateChange.{StateChange}
use Rattle.sq_states.specs.declared.piece.StateChange.TheVariants as change
use Rattle.sq_states.proofs.Entered.{rows_follow}
use Rattle.sq_states.proofs.Rising.{row_rise}
use Rattle.sq_states.proofs.Shares.{after_cut}
use Rattle.sq_states.proofs.Stepped.{no_steps, piece_is, stepped}

rows_kept : (kept now : NodeState) (run : List (Entry ℤ)) (y d : Rows) → OnRows kept (λ parts. HoldsRows parts y) → IsChanged kept (change.Rows run) now → IsChangeOf (λ row. Some row) d run → OnRows now (λ parts. HoldsRows parts (plus y d))
rows_kept state.Nothing now run y d holds changed made = absurd holds
rows_kept (state.Sides a b) now run y d holds changed made = absurd holds
rows_kept (state.Groups accs ordered shown) now run y d holds changed made = absurd holds
rows_kept (state.Rows parts) state.Nothing run y d holds changed made = absurd changed
rows_kept (state.Rows parts) (state.Sides a b) run y d holds changed made = absurd changed
rows_kept (state.Rows parts) (state.Groups accs ordered shown) run y d holds changed made = absurd changed
rows_kept (state.Rows parts) (state.Rows new) run y d holds changed made = rows_follow parts new y d run holds made changed

rows_kind : (y : Rows) (kept : NodeState) (c : StateChange) (run : List (Entry ℤ)) → c ≡ change.Rows run → OnRows kept (λ parts. HoldsRows parts y) → change_kind c ≡ state_kind kept
rows_kind y state.Nothing c run e h = absurd h
rows_kind y (state.Rows parts) c run e h = ap change_kind e
rows_kind y (state.Sides a b) c run e h = absurd h
rows_kind y (state.Groups accs ordered shown) c run e h = absurd h

pub distinct_few : (i old new : ℕ) (parts : KeptWeights) (d right : Rows) (first : Bool) (b : NodeStep (Distinct i) (state.Rows parts) d right first) → new ≤ old + length (entries d) → new ≤ old + cost_of b
distinct_few i old new parts d right first b few = subst (λ z. new ≤ old + length (entries z)) b.left_is few

module _ (d right : Rows) (first : Bool) (p : Piece) (run : List (Entry ℤ)) (is_run : p.kept ≡ change.Rows run) (made : IsChangeOf (λ row. Some row) d run) (in_range : IsInRange p.change) where
  pub table_steps : (t count : ℕ) (kept : NodeState) → p.change ≡ d → IsStepped (Table t) kept d right first (Ok p) count count
  table_steps t count kept is =
      stepped (Table t) kept d right first count count p
      (λ b. piece_is (Table t) kept d right first count count refl b p.change (is ∙ sym (row_rise (cut b.S (λ row. row) b.s b.y) d))) in_range
      (λ b now changed. subst (λ z. OnRows now (λ parts. HoldsRows parts z)) (after_cut b.S (λ row. row) b.s b.y b.dy d b.left_is)
      (rows_kept kept now run (cut b.S (λ row. row) b.s b.y) d b.keeps (subst (λ c. IsChanged kept c now) is_run changed) made))
      (λ b. rows_kind (cut b.S (λ row. row) b.s b.y) kept p.kept run is_run b.keeps) (λ b. record { values = refl; sums = refl }) (λ b. no_steps count _)

  pub distinct_steps : (i old new : ℕ) (parts : KeptWeights) → ((z : Rows) → HoldsRows parts z → p.change ≡ minus (distinct (plus z d)) (distinct z)) → new ≤ old + length (entries d)
      → IsStepped (Distinct i) (state.Rows parts) d right first (Ok p) old new
  distinct_steps i old new parts is few =
      stepped (Distinct i) (state.Rows parts) d right first old new p
      (λ b. piece_is (Distinct i) (state.Rows parts) d right first old new refl b p.change (is (cut b.S (λ row. row) b.s b.y) b.keeps)) in_range
      (λ b now changed. subst (λ z. OnRows now (λ parts. HoldsRows parts z)) (after_cut b.S (λ row. row) b.s b.y b.dy d b.left_is)
      (rows_kept (state.Rows parts) now run (cut b.S (λ row. row) b.s b.y) d b.keeps (subst (λ c. IsChanged (state.Rows parts) c now) is_run changed) made))
      (λ b. ap change_kind is_run) (λ b. record { values = refl; sums = refl }) (λ b. distinct_few i old new parts d right first b few)
