-- The least owner of a node of which the tasks tell a fault is the verdict: a node that is not sound needs one with a fault, itself or
-- another, of which all sources are sound and the owner is not above its own. With no verdict all tasks run.
use Rattle.std.proofs.Common.{◌≡◌, ℕ, zero, suc, ◌<◌, ◌≤◌, Bool, true, false, not, ◌&&◌, cond, List, get_or, length, Some, None, refl, sym, ap, subst, ◌∙◌, arith}
use Rattle.std.specs.Prelude.{Option, slice_get}
use Rattle.std.proofs.lemmas.Bool.{and_cases, and_parts}
use Rattle.std.proofs.lemmas.Option.{same_Some, slice_get_cases}
use mathlib.Core.Logic.{◌⊎◌, inl, inr}
use Rattle.sq_circuit.specs.Along.{least_below}
use Rattle.sq_circuit.specs.Circuits.{are_sound, has_fault, is_sound, owner_at, owner_in, verdict}
use Rattle.sq_circuit.specs.Invariant.{AreEarlier, IsEarlier, IsOwnedBelow, IsOwner, view_count}
use Rattle.sq_circuit.specs.Nodes.{Rows, Source, Nowhere, Outer, Inner, left_source, right_source}
use Rattle.sq_circuit.specs.Verdicts.{source_sound}
use Rattle.sq_circuit.specs.declared.circuit.Part.{Part}
use Rattle.sq_circuit.proofs.Alongside.{Below, least_agree, least_bound}
use Rattle.sq_circuit.proofs.Evaluating.{sound_at}
use Rattle.sq_circuit.proofs.Owning.{HasOwner, IsTableNode, all_sound, fault_unsound, faulty_owner, part_owned, reads_earlier, table_sound}
use Rattle.sq_shard.specs.Shards.{shards}
use Rattle.sq_incr.specs.Outcomes.{AllRan, AreTested, IsTick, Outcome, Broken, Ran, Skipped, Store, has_run, is_faulty, least_faulty, outcome, piece_in, TotalsRise}
use Rattle.sq_incr.proofs.Running.{leaves_piece}
use Rattle.sq_incr.proofs.Sharing.{all_pass, at_shard}
use Rattle.sq_incr.proofs.Testing.{and_true, are_tested, clear_is, not_faulty, totals_rise}

given : (b : Bool) (o : Option ℕ) (v : ℕ) → cond b o None ≡ Some v → (b ≡ true) × (o ≡ Some v)
given true o v e = (refl, e)
given false o v e = absurd (cc e)

negated : (b : Bool) → not b ≡ false → b ≡ true
negated true e = refl
negated false e = absurd (cc e)

ran_outcome : (o : Outcome) → has_run o ≡ true → o ≡ Ran (piece_in o)
ran_outcome Skipped h = absurd (cc h)
ran_outcome Broken h = absurd (cc h)
ran_outcome (Ran z) h = refl

module _ (first : Bool) (c : List Part) (n : ℕ) (old : List Rows) (change : ℕ → Rows) (new : List Rows) (tick : IsTick first c n old change new) where
  earlier : AreEarlier c
  earlier = reads_earlier c tick.circuit.parts

  abbrev out : Store
  out = outcome first c n old change

  abbrev tells : ℕ → Option ℕ
  tells i = cond (is_faulty first c n old change out i) (owner_at c i) None

  abbrev Least : ℕ → Type 0
  Least w = Below (least_below tells (length c)) w

  -- ---- a fault that is told is there
  told_fault : (i : ℕ) (p : Part) → slice_get c i ≡ Some p → is_faulty first c n old change out i ≡ true → has_fault c new i ≡ true
  told_fault i p e faulty = at (are_sound (Some p) (source_sound c new)) refl
    where
      at : (b : Bool) → are_sound (Some p) (source_sound c new) ≡ b → has_fault c new i ≡ true
      at true sound = sym ((are_tested first c n tick.some old change earlier new tick.changed i p e).told sound) ∙ faulty
      at false unsound = absurd (let same = sym faulty ∙ not_faulty first c n tick.some old change earlier new tick.changed i p e unsound in cc)

  part_at : (i v : ℕ) → owner_at c i ≡ Some v → (p : Part) × (slice_get c i ≡ Some p)
  part_at i v e = at (slice_get c i) refl
    where
      at : (o : Option Part) → slice_get c i ≡ o → (p : Part) × (slice_get c i ≡ Some p)
      at None is = absurd (cc (sym (ap owner_in is) ∙ e))
      at (Some p) is = (p, is)

  within : (i v : ℕ) → i < length c → tells i ≡ Some v → faulty_owner c tick.circuit.parts new i ≡ Some v
  within i v low e =
      let both = given (is_faulty first c n old change out i) (owner_at c i) v e in
      let found = part_at i v both.1 in
      ap (λ b. cond b (owner_at c i) None) (told_fault i found.0 found.1 both.0) ∙ both.1

  -- ---- a node that is not sound needs one that tells a fault
  pub record IsUnsound (i w : ℕ) : Type 0 where
    pub low : i < length c
    pub broken : is_sound c new i ≡ false
    pub owner : owner_at c i ≡ Some w

  owns : (i w : ℕ) (p : Part) → slice_get c i ≡ Some p → owner_at c i ≡ Some w → IsOwner (view_count c) c p.node w
  owns i w p e owner = at (part_owned c tick.circuit.parts i p e)
    where
      at : IsTableNode p.node p.place p.owner ⊎ HasOwner (view_count c) c p.node p.owner → IsOwner (view_count c) c p.node w
      at (inl t) = absurd (let same = sym owner ∙ ap owner_in e ∙ t.no_owner in cc)
      at (inr o) = subst (λ v. IsOwner (view_count c) c p.node v) (same_Some o.view w (sym o.is ∙ sym (ap owner_in e) ∙ owner)) o.owns

  unsound_source : (s : Source) (i w : ℕ) → i < length c → IsEarlier i s → IsOwnedBelow c w s → source_sound c new s ≡ false → ((j v : ℕ) → j < i → IsUnsound j v → Least v) → Least w
  unsound_source Nowhere i w long low below broken rest = absurd (cc broken)
  unsound_source (Outer t) i w long low below broken rest = absurd (cc broken)
  unsound_source (Inner j) i w long low below broken rest = at (slice_get_cases c j).1
    where
      has : (q : Part) → slice_get c j ≡ Some q → IsTableNode q.node q.place q.owner ⊎ HasOwner (view_count c) c q.node q.owner → Least w
      has q e (inl t) = absurd (let sound = sym broken ∙ table_sound c tick.circuit.parts new j q e t in cc)
      has q e (inr o) =
          let owner : owner_at c j ≡ Some o.view = ap owner_in e ∙ o.is in
          let least = rest j o.view low (record { low = omega arith; broken = broken; owner = owner }) in
          record { number = least.number; is = least.is; low = let a = least.low in let b = below o.view owner in omega arith }

      at : ((q : Part) × (j < length c) × (slice_get c j ≡ Some q) × (get_or c j q ≡ q)) ⊎ ((length c ≤ j) × (slice_get c j ≡ None)) → Least w
      at (inl found) = has found.0 found.2 (part_owned c tick.circuit.parts j found.0 found.2)
      at (inr past) = absurd (let high = past.0 in omega arith)

  unsound_at : (i w : ℕ) → IsUnsound i w → ((j v : ℕ) → j < i → IsUnsound j v → Least v) → Least w
  unsound_at i w u rest = at (part_at i w u.owner)
    where
      told : (p : Part) → slice_get c i ≡ Some p → are_sound (Some p) (source_sound c new) ≡ true → Least w
      told p e sound =
          let fault : has_fault c new i ≡ true = negated (has_fault c new i) (sym (sound_at c earlier new i p e ∙ ap (λ b. not (has_fault c new i) && b) sound ∙ and_true (not (has_fault c new i))) ∙ u.broken) in
          least_bound tells (length c) i w u.low (ap (λ b. cond b (owner_at c i) None) ((are_tested first c n tick.some old change earlier new tick.changed i p e).told sound ∙ fault) ∙ u.owner)

      step : (p : Part) → slice_get c i ≡ Some p → (b : Bool) → are_sound (Some p) (source_sound c new) ≡ b → Least w
      step p e true sound = told p e sound
      step p e false unsound = source (and_cases (source_sound c new (left_source p.node)) (source_sound c new (right_source p.node)) unsound)
        where
          source : (source_sound c new (left_source p.node) ≡ false) ⊎ (source_sound c new (right_source p.node) ≡ false) → Least w
          source (inl left) = unsound_source (left_source p.node) i w u.low (earlier i p e).0 (owns i w p e u.owner).left left rest
          source (inr right) = unsound_source (right_source p.node) i w u.low (earlier i p e).1 (owns i w p e u.owner).right right rest

      at : (p : Part) × (slice_get c i ≡ Some p) → Least w
      at found = step found.0 found.1 (are_sound (Some found.0) (source_sound c new)) refl

  unsound_below : (m i w : ℕ) → i < m → IsUnsound i w → Least w
  unsound_below zero i w low u = absurd (omega arith)
  unsound_below (suc m) i w low u = unsound_at i w u (λ j v less other. unsound_below m j v (omega arith) other)

  reached : (i w : ℕ) → i < length c → faulty_owner c tick.circuit.parts new i ≡ Some w → Least w
  reached i w low e =
      let both = given (has_fault c new i) (owner_at c i) w e in
      unsound_below (suc i) i w (omega arith) (record { low = low; broken = fault_unsound c tick.circuit.parts new i both.0; owner = both.1 })

  pub told_verdict : least_faulty first c n old change out ≡ verdict c new
  told_verdict = least_agree tells (faulty_owner c tick.circuit.parts new) (length c) within reached

  pub tested : AreTested first c n old change new
  tested = are_tested first c n tick.some old change earlier new tick.changed

  pub totals : TotalsRise first c n old change new
  totals = totals_rise first c n tick.some old change earlier new tick.changed

  -- ---- with no verdict all tasks run
  pub all_run : verdict c new ≡ None → AllRan first c n old change
  all_run clear i p e s low =
      let ran = (and_parts _ _ (clear_is first c n tick.some old change earlier new tick.changed i ∙ all_sound c tick.circuit.parts new clear i p e)).0 in
      let runs : has_run (out i s) ≡ true = at_shard (λ s. has_run (out i s) ≡ true) n tick.some (all_pass (λ s. has_run (out i s)) (shards n).numbers ran) s low in
      ran_outcome (out i s) runs ∙ ap Ran (leaves_piece first c n tick.some old change earlier i s runs)
