-- What is known of a node, from what is known of the nodes that it reads.
use Rattle.std.proofs.Common.{◌≡◌, ℕ, ◌<◌, Bool, true, false, not, ◌&&◌, ◌||◌, cond, List, [], ◌∷◌, length, get_or, Some, None, refl, sym, ap, ap₂, subst, ◌∙◌, arith}
use Rattle.std.specs.Prelude.{Option, slice_get}
use Rattle.std.proofs.lemmas.Option.{same_Some, slice_get-get_or}
use Rattle.sq_circuit.specs.Circuits.{has_number_outside, is_sound, known, lists_too_many, node_at, node_in, place_at, place_in, whole, whole_from}
use Rattle.sq_circuit.specs.Invariant.{IsBounded, IsCircuit, IsGood}
use Rattle.sq_circuit.specs.Nodes.{Rows, Source, Nowhere, Outer, Inner, left_source, operator, right_source}
use Rattle.sq_circuit.specs.declared.circuit.Part.{Part}
use Rattle.sq_circuit.specs.declared.node.Node.{Node}
use Rattle.sq_circuit.proofs.Bounding.{bounded_in_range}
use Rattle.sq_circuit.proofs.Evaluating.{fault_at, sound_at, source_sound, whole_at}
use Rattle.sq_circuit.proofs.Owning.{reads_earlier}
use Rattle.sq_whole.specs.Answers.{AnswersNode, IsAnswer, IsAnswerAt, IsResult, known_from, rows_within}

-- the part that stands at a node
pub record PartAt (c : List Part) (i : ℕ) (n : Node) : Type 0 where
  pub part : Part
  pub at : slice_get c i ≡ Some part
  pub node : part.node ≡ n

pub part_of_node : (c : List Part) (i : ℕ) (n : Node) → node_at c i ≡ Some n → PartAt c i n
part_of_node c i n e = step (slice_get c i) refl
  where
    step : (o : Option Part) → slice_get c i ≡ o → PartAt c i n
    step None is = absurd (let same = sym (ap node_in is) ∙ e in cc)
    step (Some p) is = record { part = p; at = is; node = same_Some p.node n (sym (ap node_in is) ∙ e) }

module _ (c : List Part) (circuit : IsCircuit c) (tables : List Rows) (good : IsGood c tables) where
  abbrev is_read_sound : Source → Bool
  is_read_sound s = source_sound c (reads_earlier c circuit.parts) tables s

  known_source : (s : Source) → known_from c tables s ≡ cond (is_read_sound s) (Some (whole_from c tables s)) None
  known_source Nowhere = refl
  known_source (Outer t) = refl
  known_source (Inner i) = refl

  -- what is known of a node is bounded
  pub known_bounded : (i : ℕ) (p : Part) (y : Rows) → slice_get c i ≡ Some p → known c tables i ≡ Some y → IsBounded c i p y
  known_bounded i p y e k = step (is_sound c tables i) refl
    where
      step : (b : Bool) → is_sound c tables i ≡ b → IsBounded c i p y
      step true s =
          subst (λ z. IsBounded c i p z)
          (same_Some (whole c tables i) y (sym (ap (λ b. cond b (Some (whole c tables i)) None) s) ∙ k))
          (circuit.bounded tables i p e (record { good = good; sound = s }))
      step false s = absurd (let same = sym (ap (λ b. cond b (Some (whole c tables i)) None) s) ∙ k in cc)

  -- a place with its rows, and whether one of its numbers is outside: it is known what it should be
  tested_rows : (place many outside : Bool) (z v : Rows) → lists_too_many z ≡ many → v ≡ z → outside ≡ false
      → rows_within place (Some v) ≡ cond (not ((place && many) || outside) && (true && true)) (Some z) None
  tested_rows place many true z v m same o = absurd (cc o)
  tested_rows true true false z v m same o = ap (λ w. cond (lists_too_many w) None (Some w)) same ∙ ap (λ b. cond b None (Some z)) m
  tested_rows true false false z v m same o = ap (λ w. cond (lists_too_many w) None (Some w)) same ∙ ap (λ b. cond b None (Some z)) m
  tested_rows false many false z v m same o = ap Some same

  none_outside : (a o : Bool) → not (a || o) && (true && true) ≡ true → o ≡ false
  none_outside true o h = absurd (cc h)
  none_outside false true h = absurd (cc h)
  none_outside false false h = refl

  module _ (i : ℕ) (p : Part) (at : slice_get c i ≡ Some p) where
    abbrev outside : Bool
    outside = has_number_outside p.node (whole_from c tables (left_source p.node))

    abbrev fault : Bool
    fault = (p.place && lists_too_many (whole c tables i)) || outside

    sound_here : (a b : Bool) → is_read_sound (left_source p.node) ≡ a → is_read_sound (right_source p.node) ≡ b → is_sound c tables i ≡ not fault && (a && b)
    sound_here a b l r =
        sound_at c (reads_earlier c circuit.parts) tables i p at
        ∙ ap (λ f. not f && (is_read_sound (left_source p.node) && is_read_sound (right_source p.node))) (fault_at c (reads_earlier c circuit.parts) tables i p at)
        ∙ ap₂ (λ x y. not fault && (x && y)) l r

    broken : (x : Option Rows) → x ≡ None → is_sound c tables i ≡ false → rows_within p.place x ≡ known c tables i
    broken x e s = ap (rows_within p.place) e ∙ sym (ap (λ b. cond b (Some (whole c tables i)) None) s)

    judged : (x : Option Rows) → IsResult (whole c tables i) outside x → is_sound c tables i ≡ not fault && (true && true) → rows_within p.place x ≡ known c tables i
    judged (Some v) h s =
        tested_rows p.place (lists_too_many (whole c tables i)) outside (whole c tables i) v refl h.0 h.1
        ∙ sym (ap (λ b. cond b (Some (whole c tables i)) None) s)
    judged None h s = step (is_sound c tables i) refl
      where
        step : (b : Bool) → is_sound c tables i ≡ b → None ≡ known c tables i
        step false is = sym (ap (λ b. cond b (Some (whole c tables i)) None) is)
        step true is =
            absurd (h (none_outside (p.place && lists_too_many (whole c tables i)) outside (sym s ∙ is))
            (bounded_in_range c i p (whole c tables i) (circuit.bounded tables i p at (record { good = good; sound = is }))))

    judged_at : (a b : Bool) (x : Option Rows) → is_read_sound (left_source p.node) ≡ a → is_read_sound (right_source p.node) ≡ b
        → IsAnswer (operator p.node) (has_number_outside p.node) (cond a (Some (whole_from c tables (left_source p.node))) None) (cond b (Some (whole_from c tables (right_source p.node))) None) x
        → rows_within p.place x ≡ known c tables i
    judged_at false b x l r h = broken x h (sound_here false b l r ∙ never_sound fault)
      where
        never_sound : (f : Bool) → not f && false ≡ false
        never_sound true = refl
        never_sound false = refl
    judged_at true false x l r h = broken x h (sound_here true false l r ∙ never_sound fault)
      where
        never_sound : (f : Bool) → not f && false ≡ false
        never_sound true = refl
        never_sound false = refl
    judged_at true true x l r h =
        judged x (subst (λ z. IsResult z outside x) (sym (whole_at c (reads_earlier c circuit.parts) tables i p at)) h) (sound_here true true l r)

    answered : (x : Option Rows) → IsAnswer (operator p.node) (has_number_outside p.node) (known_from c tables (left_source p.node)) (known_from c tables (right_source p.node)) x
        → rows_within p.place x ≡ known c tables i
    answered x h =
        judged_at (is_read_sound (left_source p.node)) (is_read_sound (right_source p.node)) x refl refl
        (subst (λ y. IsAnswer (operator p.node) (has_number_outside p.node) y (cond (is_read_sound (right_source p.node)) (Some (whole_from c tables (right_source p.node))) None) x) (known_source (left_source p.node))
        (subst (λ z. IsAnswer (operator p.node) (has_number_outside p.node) (known_from c tables (left_source p.node)) z x) (known_source (right_source p.node)) h))

    answered_at : (x : Option Rows) → IsAnswerAt c tables i x → rows_within (place_at c i) x ≡ known c tables i
    answered_at x h =
        ap (λ o. rows_within (place_in o) x) at
        ∙ answered x (subst (λ o. AnswersNode c tables (node_in o) x) at h)

  -- an answer of a node, tested at its place, is what is known of the node
  pub known_is : (i : ℕ) (x : Option Rows) → i < length c → IsAnswerAt c tables i x → rows_within (place_at c i) x ≡ known c tables i
  known_is i x low h = step c refl
    where
      step : (d : List Part) → c ≡ d → rows_within (place_at c i) x ≡ known c tables i
      step [] e = absurd (let none = ap length e in omega arith)
      step (p ∷ ps) e = answered_at i (get_or c i p) (slice_get-get_or c i p low) x h
