-- The pieces of a node in all shards add up to its change: by strong induction along the circuit, for any kinds of nodes.
use Rattle.std.proofs.Common.{◌≡◌, ℕ, zero, suc, ◌<◌, Bool, true, false, List, Some, None, refl, sym, ap, ap₂, ◌∙◌, arith}
use Rattle.std.specs.Prelude.{Option, slice_get}
use Rattle.sq_value.specs.declared.value.Value.{Value}
use Rattle.sq_value.specs.Order.{row_cmp}
use Rattle.sq_algebra.specs.Groups.{z_sets}
use Rattle.sq_algebra.specs.Keyed.{Shards, over_shards}
use Rattle.sq_algebra.specs.ZSet.{minus, plus}
use Rattle.sq_algebra.proofs.AbelianLemmas.{minus-self, neutral_right, plus-minus_back, sum_over-minus, sum_over-zero}
use Rattle.sq_zset.specs.GroupLaws.{rows_are_abelian}
use Rattle.sq_circuit.specs.Along.{ReadsEarlier}
use Rattle.sq_circuit.specs.Circuits.{value_of, whole, whole_from}
use Rattle.sq_circuit.specs.Costs.{before}
use Rattle.sq_circuit.specs.Invariant.{AreEarlier, IsEarlier}
use Rattle.sq_circuit.specs.NodeLaws.{share}
use Rattle.sq_circuit.specs.Nodes.{Rows, Source, Nowhere, Outer, Inner, left_source, none, operator, right_source}
use Rattle.sq_circuit.specs.Pieces.{AddUpToChanges, AreChanged, held_at, held_now, piece_of, piece_step, pieces}
use Rattle.sq_circuit.specs.declared.circuit.Part.{Part}
use Rattle.sq_circuit.proofs.Alongside.{along_is}
use Rattle.sq_circuit.proofs.Evaluating.{whole_at, whole_is}
use Rattle.sq_circuit.proofs.Lawful.{lawful}

module _ (first : Bool) (c : List Part) (earlier : AreEarlier c) (S : Shards (List Value)) (old : List Rows) (change : ℕ → Rows) where
  now_agree : (s : Source) (n : ℕ) → IsEarlier n s → (f g : ℕ → ℕ → Rows) → ((i : ℕ) → i < n → f i ≡ g i) → held_now first c S old change f s ≡ held_now first c S old change g s
  now_agree Nowhere n low f g same = refl
  now_agree (Outer t) n low f g same = refl
  now_agree (Inner i) n low f g same = ap (λ h. plus (held_at first c S old change (Inner i)) (over_shards (z_sets row_cmp) S h)) (same i low)

  piece_reads : ReadsEarlier (piece_step first c S old change)
  piece_reads n f g same = at (slice_get c n) refl
    where
      at : (o : Option Part) → slice_get c n ≡ o → piece_of first c S old change o f ≡ piece_of first c S old change o g
      at None e = refl
      at (Some p) e =
          ap₂ (λ y z s. minus (share p.node S s y z) (before first (share p.node S s (held_at first c S old change (left_source p.node)) (held_at first c S old change (right_source p.node)))))
          (now_agree (left_source p.node) n (earlier n p e).0 f g same) (now_agree (right_source p.node) n (earlier n p e).1 f g same)

  pieces_are : (i : ℕ) → pieces first c S old change i ≡ piece_step first c S old change i (pieces first c S old change)
  unfolding pieces
  pieces_are i = along_is (λ s. none) (piece_step first c S old change) piece_reads i

  module _ (new : List Rows) (changed : AreChanged first old change new) where
    abbrev Right : ℕ → Type 0
    Right i = over_shards (z_sets row_cmp) S (pieces first c S old change i) ≡ minus (whole c new i) (before first (whole c old i))

    -- what a source holds now is what it holds over the new tables
    now_is : (n : ℕ) (s : Source) → IsEarlier n s → ((i : ℕ) → i < n → Right i) → held_now first c S old change (pieces first c S old change) s ≡ whole_from c new s
    now_is n Nowhere low right = neutral_right (z_sets row_cmp) rows_are_abelian (before first none) ∙ nothing first
      where
        nothing : (b : Bool) → before b none ≡ none
        nothing true = refl
        nothing false = refl
    now_is n (Outer t) low right = sym (changed t)
    now_is n (Inner i) low right =
        ap (plus (before first (whole c old i))) (right i low)
        ∙ plus-minus_back (z_sets row_cmp) rows_are_abelian (before first (whole c old i)) (whole c new i)

    -- the shares of what was read add up to what was there
    shares_before : (b : Bool) (p : Part) (y z : Rows) → over_shards (z_sets row_cmp) S (λ s. before b (share p.node S s (before b y) (before b z))) ≡ before b (operator p.node y z)
    shares_before true p y z = sum_over-zero (z_sets row_cmp) rows_are_abelian S.numbers
    shares_before false p y z = (lawful p.node).shares S y z

    right_at : (i : ℕ) (p : Part) → slice_get c i ≡ Some p → ((j : ℕ) → j < i → Right j) → Right i
    right_at i p e right =
        ap (over_shards (z_sets row_cmp) S) (pieces_are i ∙ ap (λ o. piece_of first c S old change o (pieces first c S old change)) e)
        ∙ sum_over-minus (z_sets row_cmp) rows_are_abelian
        (λ s. share p.node S s (held_now first c S old change (pieces first c S old change) (left_source p.node)) (held_now first c S old change (pieces first c S old change) (right_source p.node)))
        (λ s. before first (share p.node S s (held_at first c S old change (left_source p.node)) (held_at first c S old change (right_source p.node)))) S.numbers
        ∙ ap₂ minus
        ((lawful p.node).shares S (held_now first c S old change (pieces first c S old change) (left_source p.node)) (held_now first c S old change (pieces first c S old change) (right_source p.node))
        ∙ ap₂ (operator p.node) (now_is i (left_source p.node) (earlier i p e).0 right) (now_is i (right_source p.node) (earlier i p e).1 right)
        ∙ sym (whole_at c earlier new i p e))
        (shares_before first p (whole_from c old (left_source p.node)) (whole_from c old (right_source p.node))
        ∙ sym (ap (before first) (whole_at c earlier old i p e)))

    right_outside : (i : ℕ) → slice_get c i ≡ None → Right i
    right_outside i e =
        ap (over_shards (z_sets row_cmp) S) (pieces_are i ∙ ap (λ o. piece_of first c S old change o (pieces first c S old change)) e)
        ∙ sum_over-zero (z_sets row_cmp) rows_are_abelian S.numbers
        ∙ sym (ap₂ (λ a b. minus a (before first b)) (whole_is c earlier new i ∙ ap (λ o. value_of o (whole_from c new)) e) (whole_is c earlier old i ∙ ap (λ o. value_of o (whole_from c old)) e)
        ∙ nothing first)
      where
        nothing : (b : Bool) → minus none (before b none) ≡ none
        nothing true = minus-self (z_sets row_cmp) rows_are_abelian none
        nothing false = minus-self (z_sets row_cmp) rows_are_abelian none

    right_below : (n i : ℕ) → i < n → Right i
    right_below zero i low = absurd (omega arith)
    right_below (suc n) i low = step (λ j less. right_below n j (omega arith)) (slice_get c i) refl
      where
        step : ((j : ℕ) → j < i → Right j) → (o : Option Part) → slice_get c i ≡ o → Right i
        step right None e = right_outside i e
        step right (Some p) e = right_at i p e right

    pub pieces_add_up : AddUpToChanges first c S old change new
    pieces_add_up i = right_below (suc i) i (omega arith)
