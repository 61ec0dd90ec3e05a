-- More nodes behind a circuit leave the values, faults and soundness of its nodes.
use Rattle.std.proofs.Common.{◌≡◌, ℕ, ◌<◌, true, not, ◌&&◌, List, ◌++◌, length, Some, None, refl, ap, ap₂, ◌∙◌, arith}
use Rattle.std.specs.Prelude.{Option, slice_get}
use Rattle.sq_circuit.specs.Circuits.{are_sound, fault_of, has_fault, is_sound, sound_step, table_at, value_of, value_step, whole, whole_from}
use Rattle.sq_circuit.specs.Invariant.{AreEarlier, IsEarlier}
use Rattle.sq_circuit.specs.Nodes.{Rows, Source, Nowhere, Outer, Inner, left_source, none, read}
use Rattle.sq_circuit.specs.declared.circuit.Part.{Part}
use Rattle.sq_circuit.proofs.Alongside.{along_same, got_front}

module _ (c more : List Part) (tables : List Rows) where
  pub whole_more : (i : ℕ) → i < length c → whole (c ++ more) tables i ≡ whole c tables i
  unfolding whole
  whole_more i low = along_same none (value_step (c ++ more) tables) (value_step c tables) (length c) (λ n below less. ap (λ o. value_of o (read (table_at tables) below none)) (got_front c more n less)) i low

  source_more : (i : ℕ) (s : Source) → i < length c → IsEarlier i s → whole_from (c ++ more) tables s ≡ whole_from c tables s
  source_more i Nowhere low early = refl
  source_more i (Outer t) low early = refl
  source_more i (Inner j) low early = whole_more j (omega arith)

  module _ (earlier : AreEarlier c) where
    pub fault_more : (i : ℕ) → i < length c → has_fault (c ++ more) tables i ≡ has_fault c tables i
    unfolding has_fault
    fault_more i low = ap (λ o. fault_of o (whole_from (c ++ more) tables) (whole (c ++ more) tables i)) (got_front c more i low) ∙ step (slice_get c i) refl
      where
        step : (o : Option Part) → slice_get c i ≡ o → fault_of o (whole_from (c ++ more) tables) (whole (c ++ more) tables i) ≡ fault_of o (whole_from c tables) (whole c tables i)
        step None e = refl
        step (Some p) e =
            ap₂ (λ y z. fault_of (Some p) (λ s. y) z) (source_more i (left_source p.node) low (earlier i p e).0) (whole_more i low)

    pub sound_more : (i : ℕ) → i < length c → is_sound (c ++ more) tables i ≡ is_sound c tables i
    unfolding is_sound
    sound_more i low =
        along_same true (sound_step (c ++ more) tables) (sound_step c tables) (length c)
        (λ n below less. ap₂ (λ f o. not f && are_sound o (read (λ t. true) below true)) (fault_more n less) (got_front c more n less)) i low
