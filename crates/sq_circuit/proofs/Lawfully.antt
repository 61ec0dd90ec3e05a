-- Laws of circuits in the words of contracts.
use Rattle.std.proofs.Common.{◌≡◌, ℕ, ◌<◌, ◌≤◌, Bool, true, false, not, ◌&&◌, cond, List, length, Some, None, refl, sym, ap, subst, ◌∙◌}
use Rattle.std.specs.Prelude.{Option, slice_get}
use Rattle.std.proofs.lemmas.Bool.{and_parts}
use Rattle.sq_zset.specs.Range.{IsInRange}
use Rattle.sq_circuit.specs.Along.{least_below}
use Rattle.sq_circuit.specs.Circuits.{has_fault, is_sound, owner_at, verdict, whole}
use Rattle.sq_circuit.specs.Invariant.{HasKinds, IsCircuit, IsSoundAt}
use Rattle.sq_circuit.specs.Nodes.{Rows, left_source, right_source}
use Rattle.sq_circuit.specs.Verdicts.{IsAtMost, IsToBlame, source_sound, unsound_owner}
use Rattle.sq_circuit.specs.declared.circuit.Part.{Part}
use Rattle.sq_circuit.proofs.Alongside.{least_bound, least_found}
use Rattle.sq_circuit.proofs.Bounding.{bounded_in_range}
use Rattle.sq_circuit.proofs.Evaluating.{sound_at}
use Rattle.sq_circuit.proofs.Owning.{faulty_owner, no_fault, reads_earlier, verdict_unsound}

at_most : (o : Option ℕ) (v w : ℕ) → o ≡ Some v → v ≤ w → IsAtMost o w
at_most o v w e low = subst (λ a. IsAtMost a w) (sym e) low

given_owner : (b : Bool) (o : Option ℕ) (v : ℕ) → cond b o None ≡ Some v → (b ≡ true) × (o ≡ Some v)
given_owner true o v e = (refl, e)
given_owner false o v e = absurd (cc e)

not_true : (b : Bool) → not b ≡ true → b ≡ false
not_true true e = cc
not_true false e = refl

module _ (c : List Part) (circuit : IsCircuit c) (tables : List Rows) where
  pub blamed : (v : ℕ) → verdict c tables ≡ Some v → IsToBlame c tables v
  blamed v e =
      let found = least_found (faulty_owner c circuit.parts tables) (length c) v e in
      let both = given_owner (has_fault c tables found.place) (owner_at c found.place) v found.is in
      record { node = found.place; low = found.low; fault = both.0; owner = both.1 }

  pub not_above : (i w : ℕ) → i < length c → has_fault c tables i ≡ true → owner_at c i ≡ Some w → IsAtMost (verdict c tables) w
  not_above i w low fault owner =
      let least = least_bound (faulty_owner c circuit.parts tables) (length c) i w low (ap (λ b. cond b (owner_at c i) None) fault ∙ owner) in
      at_most (verdict c tables) least.number w least.is least.low

  pub clear : verdict c tables ≡ None → (i : ℕ) → i < length c → has_fault c tables i ≡ false
  clear e i low = no_fault c circuit.parts tables e i low

  pub clear_from : ((i : ℕ) → i < length c → has_fault c tables i ≡ false) → verdict c tables ≡ None
  clear_from none = step (verdict c tables) refl
    where
      step : (o : Option ℕ) → verdict c tables ≡ o → verdict c tables ≡ None
      step None e = e
      step (Some v) e = let who = blamed v e in absurd (let same = sym who.fault ∙ none who.node who.low in cc)

  pub by_soundness : verdict c tables ≡ least_below (unsound_owner c tables) (length c)
  by_soundness = verdict_unsound c circuit.parts tables

  module _ (i : ℕ) (p : Part) (at : slice_get c i ≡ Some p) (sound : is_sound c tables i ≡ true) where
    abbrev parts : (not (has_fault c tables i) ≡ true) × ((source_sound c tables (left_source p.node) && source_sound c tables (right_source p.node)) ≡ true)
    parts = and_parts (not (has_fault c tables i)) (source_sound c tables (left_source p.node) && source_sound c tables (right_source p.node)) (sym (sound_at c (reads_earlier c circuit.parts) tables i p at) ∙ sound)

    pub faultless : has_fault c tables i ≡ false
    faultless = not_true (has_fault c tables i) parts.0

    pub left_sound : source_sound c tables (left_source p.node) ≡ true
    left_sound = (and_parts (source_sound c tables (left_source p.node)) (source_sound c tables (right_source p.node)) parts.1).0

    pub right_sound : source_sound c tables (right_source p.node) ≡ true
    right_sound = (and_parts (source_sound c tables (left_source p.node)) (source_sound c tables (right_source p.node)) parts.1).1

pub sound_kinds : (c : List Part) (tables : List Rows) (i : ℕ) (p : Part) → IsCircuit c → slice_get c i ≡ Some p → IsSoundAt c tables i → HasKinds p.kinds (whole c tables i)
sound_kinds c tables i p circuit at sound = (circuit.bounded tables i p at sound).of_kinds

pub sound_in_range : (c : List Part) (tables : List Rows) (i : ℕ) (p : Part) → IsCircuit c → slice_get c i ≡ Some p → IsSoundAt c tables i → IsInRange (whole c tables i)
sound_in_range c tables i p circuit at sound = bounded_in_range c i p (whole c tables i) (circuit.bounded tables i p at sound)
