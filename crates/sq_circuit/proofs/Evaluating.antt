-- The value, the fault and the soundness of a node, each by those of the nodes that it reads.
use Rattle.std.proofs.Common.{◌≡◌, ℕ, ◌<◌, Bool, true, not, ◌&&◌, List, Some, None, refl, ap, ap₂, ◌∙◌}
use Rattle.std.specs.Prelude.{Option, slice_get}
use Rattle.sq_circuit.proofs.Alongside.{along_is}
use Rattle.sq_circuit.specs.Along.{ReadsEarlier}
use Rattle.sq_circuit.specs.Circuits.{are_sound, fault_of, has_fault, is_sound, sound_step, table_at, value_of, value_step, whole, whole_from}
use Rattle.sq_circuit.specs.Invariant.{AreEarlier, IsEarlier}
use Rattle.sq_circuit.specs.Nodes.{Rows, Source, Nowhere, Outer, Inner, left_source, none, operator, read, right_source}
use Rattle.sq_circuit.specs.declared.circuit.Part.{Part}

read_agree : {A : Type 0} (outer : ℕ → A) (other : A) (s : Source) (n : ℕ) → IsEarlier n s → (f g : ℕ → A) → ((i : ℕ) → i < n → f i ≡ g i) → read outer f other s ≡ read outer g other s
read_agree outer other Nowhere n low f g same = refl
read_agree outer other (Outer t) n low f g same = refl
read_agree outer other (Inner i) n low f g same = same i low

module _ (c : List Part) (earlier : AreEarlier c) (tables : List Rows) where
  value_reads : ReadsEarlier (value_step c tables)
  value_reads n f g same = at (slice_get c n) refl
    where
      at : (o : Option Part) → slice_get c n ≡ o → value_of o (read (table_at tables) f none) ≡ value_of o (read (table_at tables) g none)
      at None e = refl
      at (Some p) e = ap₂ (operator p.node)
          (read_agree (table_at tables) none (left_source p.node) n (earlier n p e).0 f g same)
          (read_agree (table_at tables) none (right_source p.node) n (earlier n p e).1 f g same)

  -- the Z-set of a node is its operator over what it reads
  pub whole_is : (i : ℕ) → whole c tables i ≡ value_of (slice_get c i) (whole_from c tables)
  unfolding whole
  whole_is i = along_is none (value_step c tables) value_reads i

  pub whole_at : (i : ℕ) (p : Part) → slice_get c i ≡ Some p → whole c tables i ≡ operator p.node (whole_from c tables (left_source p.node)) (whole_from c tables (right_source p.node))
  whole_at i p e = whole_is i ∙ ap (λ o. value_of o (whole_from c tables)) e

  pub fault_at : (i : ℕ) (p : Part) → slice_get c i ≡ Some p → has_fault c tables i ≡ fault_of (Some p) (whole_from c tables) (whole c tables i)
  unfolding has_fault
  fault_at i p e = ap (λ o. fault_of o (whole_from c tables) (whole c tables i)) e

  sound_reads : ReadsEarlier (sound_step c tables)
  sound_reads n f g same = ap (λ b. not (has_fault c tables n) && b) (at (slice_get c n) refl)
    where
      at : (o : Option Part) → slice_get c n ≡ o → are_sound o (read (λ t. true) f true) ≡ are_sound o (read (λ t. true) g true)
      at None e = refl
      at (Some p) e = ap₂ (λ a b. a && b)
          (read_agree (λ t. true) true (left_source p.node) n (earlier n p e).0 f g same)
          (read_agree (λ t. true) true (right_source p.node) n (earlier n p e).1 f g same)

  -- whether what a source reads is sound
  abbrev pub source_sound : Source → Bool
  source_sound s = read (λ t. true) (is_sound c tables) true s

  -- a node is sound if it has no fault and what it reads is sound
  pub sound_is : (i : ℕ) → is_sound c tables i ≡ not (has_fault c tables i) && are_sound (slice_get c i) source_sound
  unfolding is_sound
  sound_is i = along_is true (sound_step c tables) sound_reads i

  pub sound_at : (i : ℕ) (p : Part) → slice_get c i ≡ Some p → is_sound c tables i ≡ not (has_fault c tables i) && (source_sound (left_source p.node) && source_sound (right_source p.node))
  sound_at i p e = sound_is i ∙ ap (λ o. not (has_fault c tables i) && are_sound o source_sound) e
