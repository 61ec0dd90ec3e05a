-- Verdicts of longer lists of parts, and verdicts told view by view.
use Rattle.std.proofs.Common.{◌≡◌, ℕ, zero, suc, ◌<◌, ◌≤◌, ◌==◌, Bool, true, false, cond, List, [], ◌∷◌, ◌++◌, length, Some, None, refl, sym, ap, ap₂, subst, ◌∙◌, arith, length-append}
use Rattle.std.specs.Prelude.{Option, get_or, slice_get}
use mathlib.Core.Logic.{◌⊎◌, inl, inr}
use Rattle.std.specs.List.{position, position_or_len}
use Rattle.std.proofs.lemmas.Bool.{eqb-false, eqb-true}
use Rattle.std.proofs.lemmas.Grind.{common_steps}
use Rattle.std.proofs.lemmas.List.Sums.{position_or_len_is}
use Rattle.std.proofs.lemmas.Option.{same_Some, slice_get_cases, slice_get_within, slice_get-get_or}
use Rattle.sq_circuit.specs.Along.{least_below, lesser}
use Rattle.sq_circuit.specs.Begun.{IsBegun, IsEnded, IsNext, ReadsThese, is_faulty}
use Rattle.sq_circuit.specs.Circuits.{has_fault, owner_at, owner_in, verdict}
use Rattle.sq_circuit.specs.Invariant.{AreEarlier, IsCircuit, view_count}
use Rattle.sq_circuit.specs.Nodes.{Rows}
use Rattle.sq_circuit.specs.Verdicts.{AreTold, IsAtMost, NoneBefore}
use Rattle.sq_circuit.specs.declared.circuit.Part.{Part}
use Rattle.sq_circuit.proofs.Alongside.{got_next, least_found}
use Rattle.sq_circuit.proofs.Appending.{Behind, front_or_behind, owner_more}
use Rattle.sq_circuit.proofs.Ending.{view_fault}
use Rattle.sq_circuit.proofs.Growing.{fault_more}
use Rattle.sq_circuit.proofs.Lawfully.{blamed, not_above}
use Rattle.sq_circuit.proofs.Making.{begun_earlier, last_fault}
use Rattle.sq_circuit.proofs.Owning.{owner_is_view}

owner_of : (b : Bool) (o : Option ℕ) (v : ℕ) → cond b o None ≡ Some v → o ≡ Some v
owner_of true o v e = e
owner_of false o v e = absurd (cc e)

-- ---- the first place that passes a test
module _ {X : Type 0} (test : X → Bool) where
  first_is : (xs : List X) (v : ℕ) (d : X) → slice_get xs v ≡ Some d → test d ≡ true → ((k : ℕ) (x : X) → k < v → slice_get xs k ≡ Some x → test x ≡ false) → position test xs ≡ Some v
  first_is xs v d at passes before =
      let low = slice_get_within xs v d at in
      let here : get_or xs v d ≡ d = same_Some (get_or xs v d) d (sym (slice_get-get_or xs v d low) ∙ at) in
      let place : position_or_len test xs ≡ v = position_or_len_is test xs v d (omega arith) (λ k less. before k (get_or xs k d) less (slice_get-get_or xs k d (omega arith))) (λ _. ap test here ∙ passes) in
      grind (arith, common_steps)

  never_is : (xs : List X) → ((k : ℕ) (x : X) → slice_get xs k ≡ Some x → test x ≡ false) → position test xs ≡ None
  never_is [] none = refl
  never_is (x ∷ xs) none =
      let place : position_or_len test (x ∷ xs) ≡ length (x ∷ xs) = position_or_len_is test (x ∷ xs) (length (x ∷ xs)) x (omega arith) (λ k less. none k (get_or (x ∷ xs) k x) (slice_get-get_or (x ∷ xs) k x less)) (λ less. absurd (omega arith)) in
      grind (arith, common_steps)

-- ---- the least of some numbers, and of more
least_same : (f g : ℕ → Option ℕ) (n : ℕ) → ((i : ℕ) → i < n → f i ≡ g i) → least_below f n ≡ least_below g n
least_same f g zero h = refl
least_same f g (suc n) h = ap₂ lesser (least_same f g n (λ i low. h i (omega arith))) (h n (omega arith))

lesser_none : (a : Option ℕ) → lesser a None ≡ a
lesser_none None = refl
lesser_none (Some a) = refl

-- numbers that are not there add nothing
least_stays : (f : ℕ → Option ℕ) (n m : ℕ) → n ≤ m → ((i : ℕ) → n ≤ i → i < m → f i ≡ None) → least_below f m ≡ least_below f n
least_stays f n zero low none = let same : 0 ≡ n = omega arith in ap (least_below f) same
least_stays f n (suc m) low none =
    elim (n == suc m) as (λ b. (n == suc m) ≡ b → lesser (least_below f m) (f m) ≡ least_below f n) [
      | true ↦ λ e. ap (least_below f) (sym (eqb-true n (suc m) e))
      | false ↦ λ e.
          let other = eqb-false n (suc m) e in
          ap (lesser (least_below f m)) (none m (omega arith) (omega arith)) ∙ lesser_none (least_below f m) ∙ least_stays f n m (omega arith) (λ i high less. none i high (omega arith))
    ] refl

abbrev blame : List Part → List Rows → ℕ → Option ℕ
blame c tables i = cond (has_fault c tables i) (owner_at c i) None

blame_more : (c more : List Part) (tables : List Rows) → AreEarlier c → (i : ℕ) → i < length c → blame (c ++ more) tables i ≡ blame c tables i
blame_more c more tables earlier i low = ap₂ (λ b o. cond b o None) (fault_more c more tables earlier i low) (owner_more c more i low)

-- ---- one more part
module _ (c : List Part) (p : Part) (earlier : AreEarlier c) (reads : ReadsThese c p) (tables : List Rows) where
  pub last_verdict : verdict (c ++ p ∷ []) tables ≡ lesser (verdict c tables) (cond (is_faulty c tables p) p.owner None)
  last_verdict =
      let long : length (c ++ p ∷ []) ≡ suc (length c) = (let both = length-append c (p ∷ []) in omega arith) in
      ap (least_below (blame (c ++ p ∷ []) tables)) long
      ∙ ap₂ lesser (least_same (blame (c ++ p ∷ []) tables) (blame c tables) (length c) (blame_more c (p ∷ []) tables earlier))
      (ap₂ (λ b o. cond b o None) (last_fault c p earlier reads tables) (ap owner_in (got_next c p (length c) refl)))

module _ (views now : ℕ) (c : List Part) (p : Part) (b : IsBegun views now c) (next : IsNext views now c p) (tables : List Rows) where
  with_owner : verdict (c ++ p ∷ []) tables ≡ lesser (verdict c tables) (cond (is_faulty c tables p) (Some now) None)
  with_owner = last_verdict c p (begun_earlier views now c b) next.reads tables ∙ ap (λ o. lesser (verdict c tables) (cond (is_faulty c tables p) o None)) next.owner

  -- an earlier view stays to blame
  lesser_first : (w : ℕ) (bad : Bool) → w ≤ now → lesser (Some w) (cond bad (Some now) None) ≡ Some w
  lesser_first w true low = ap Some (let l = low in omega arith)
  lesser_first w false low = refl

  pub verdict_kept : (w : ℕ) → verdict c tables ≡ Some w → verdict (c ++ p ∷ []) tables ≡ Some w
  verdict_kept w e =
      let found = least_found (blame c tables) (length c) w e in
      let owner = owner_of (has_fault c tables found.place) (owner_at c found.place) w found.is in
      with_owner ∙ ap (λ o. lesser o (cond (is_faulty c tables p) (Some now) None)) e ∙ lesser_first w (is_faulty c tables p) (b.owners found.place w owner)

  pub verdict_new : verdict c tables ≡ None → verdict (c ++ p ∷ []) tables ≡ cond (is_faulty c tables p) (Some now) None
  verdict_new e = with_owner ∙ ap (λ o. lesser o (cond (is_faulty c tables p) (Some now) None)) e

-- ---- the views at the end
pub ended_verdict : (views now : ℕ) (c vs : List Part) → IsEnded views now c vs → (tables : List Rows) → verdict (c ++ vs) tables ≡ verdict c tables
ended_verdict views now c vs h tables =
    least_stays (blame (c ++ vs) tables) (length c) (length (c ++ vs)) (let both = length-append c vs in omega arith) none
    ∙ least_same (blame (c ++ vs) tables) (blame c tables) (length c) (blame_more c vs tables (begun_earlier views now c h.begun))
  where
    at : (i : ℕ) → length c ≤ i → (p : Part) → slice_get (c ++ vs) i ≡ Some p → (slice_get c i ≡ Some p) ⊎ Behind (length c) vs i p → has_fault (c ++ vs) tables i ≡ false
    at i high p e (inl front) = absurd (let low = slice_get_within c i p front in omega arith)
    at i high p e (inr k) = view_fault views now c vs h tables i k.place p e (h.each k.place p k.at)

    none : (i : ℕ) → length c ≤ i → i < length (c ++ vs) → blame (c ++ vs) tables i ≡ None
    none i high low = step (slice_get_cases (c ++ vs) i).1
      where
        step : ((x : Part) × (i < length (c ++ vs)) × (slice_get (c ++ vs) i ≡ Some x) × (get_or (c ++ vs) i x ≡ x)) ⊎ ((length (c ++ vs) ≤ i) × (slice_get (c ++ vs) i ≡ None)) → blame (c ++ vs) tables i ≡ None
        step (inl found) = ap (λ b. cond b (owner_at (c ++ vs) i) None) (at i high found.0 found.2 (front_or_behind c vs i found.0 found.2))
        step (inr past) = absurd (let long = past.0 in omega arith)

-- ---- verdicts view by view
module _ {X : Type 0} (test : X → Bool) (xs : List X) (c : List Part) (tables : List Rows) (circuit : IsCircuit c) (many : length xs ≡ view_count c) (told : AreTold test xs c tables) where
  -- none before one that is told of is to blame
  fails : (v : ℕ) → NoneBefore c tables v → (k : ℕ) (x : X) → k < v → slice_get xs k ≡ Some x → test x ≡ false
  fails v none k x low e = step (test x) refl
    where
      step : (b : Bool) → test x ≡ b → test x ≡ false
      step false f = f
      step true f = absurd (none k low ((told k x e (λ w less. none w (omega arith))).blames f))

  none_before : (v : ℕ) → verdict c tables ≡ Some v → NoneBefore c tables v
  none_before v e w low who = let least : IsAtMost (Some v) w = subst (λ o. IsAtMost o w) e (not_above c circuit tables who.node w who.low who.fault who.owner) in omega arith

  none_at_all : verdict c tables ≡ None → (v : ℕ) → NoneBefore c tables v
  none_at_all e v w low who = subst (λ o. IsAtMost o w) e (not_above c circuit tables who.node w who.low who.fault who.owner)

  found_first : (v : ℕ) (d : X) → verdict c tables ≡ Some v → slice_get xs v ≡ Some d → position test xs ≡ Some v
  found_first v d e at =
      let low = slice_get_within xs v d at in
      let none = none_before v e in
      first_is test xs v d at ((told v d at none).tells (blamed c circuit tables v e)) (λ k x less there. fails v none k x less there)

  by_verdict : (o : Option ℕ) → verdict c tables ≡ o → o ≡ position test xs
  by_verdict None e = sym (never_is test xs (λ k x there. fails (suc k) (none_at_all e (suc k)) k x (omega arith) there))
  by_verdict (Some v) e = at (slice_get_cases xs v).1
    where
      low : v < length xs
      low = let who = blamed c circuit tables v e in let view = owner_is_view c circuit.parts who.node v who.owner in omega arith

      at : ((x : X) × (v < length xs) × (slice_get xs v ≡ Some x) × (get_or xs v x ≡ x)) ⊎ ((length xs ≤ v) × (slice_get xs v ≡ None)) → Some v ≡ position test xs
      at (inl found) = sym (found_first v found.0 e found.2)
      at (inr past) = absurd (let long = past.0 in let less = low in omega arith)

  pub verdict_is_first : verdict c tables ≡ position test xs
  verdict_is_first = by_verdict (verdict c tables) refl
