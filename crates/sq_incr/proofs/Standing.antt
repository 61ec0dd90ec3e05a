-- Whether a task may stand behind others, as a test; so each order is legal, or has a first task that may not stand where it does.
use Rattle.std.proofs.Common.{◌≡◌, ℕ, zero, suc, ◌<◌, ◌≤◌, Bool, true, false, not, ◌&&◌, List, get_or, length, take, Some, None, refl, sym, subst, ◌∙◌, arith}
use Rattle.std.specs.Prelude.{Option, nat_lt, slice_get}
use Rattle.std.specs.List.{Contains}
use Rattle.std.proofs.lemmas.Bool.{and_from, and_parts, cases_lt, lt-ltb, ltb-true}
use mathlib.Core.Logic.{◌⊎◌, inl, inr}
use Rattle.sq_algebra.specs.Keyed.{numbers_below}
use Rattle.sq_circuit.specs.Circuits.{are_sound}
use Rattle.sq_circuit.specs.Nodes.{Source, Nowhere, Outer, Inner, left_source, right_source}
use Rattle.sq_circuit.specs.declared.circuit.Part.{Part}
use Rattle.sq_incr.specs.Orders.{FirstIllegal, IsInput, IsLegal, IsOfNode, MayStand, is_done, is_in, may_stand, task}
use Rattle.sq_incr.specs.declared.task.Task.{Task}
use Rattle.sq_incr.proofs.Ordering.{contains_in, got_taken, got_within, in_contains, taken_twice}
use Rattle.sq_incr.proofs.Sharing.{all_pass, at_each, each_below, pass_all}

not_in : (b : Bool) → not b ≡ true → b ≡ true → ⊥
not_in true e f = absurd (cc e)
not_in false e f = absurd (cc f)

not_from : (b : Bool) → (b ≡ true → ⊥) → not b ≡ true
not_from true h = absurd (h refl)
not_from false h = refl

module _ (c : List Part) (n : ℕ) (front : List Task) where
  -- ---- what a task needs
  source_to : (s : Source) → is_done front n s ≡ true → (u : Task) → IsOfNode u.node s → u.shard < n → Contains front u
  source_to Nowhere done u of inside = absurd of
  source_to (Outer t) done u of inside = absurd of
  source_to (Inner j) done u of inside = in_contains front u (at_each (λ k. is_in front (task u.node k) ≡ true) n
      (subst (λ i. (k : ℕ) (d : ℕ) → k < length (numbers_below n) → is_in front (task i (get_or (numbers_below n) k d)) ≡ true) of (all_pass (λ k. is_in front (task j k)) (numbers_below n) done)) u.shard inside)

  source_from : (s : Source) → ((u : Task) → IsOfNode u.node s → u.shard < n → Contains front u) → is_done front n s ≡ true
  source_from Nowhere after = refl
  source_from (Outer t) after = refl
  source_from (Inner j) after = pass_all (λ k. is_in front (task j k)) (numbers_below n) (each_below (λ k. is_in front (task j k) ≡ true) n (λ k low. contains_in front (task j k) (after (task j k) refl low)))

  sources_to : (o : Option Part) → are_sound o (is_done front n) ≡ true → (u : Task) → IsInput o u.node → u.shard < n → Contains front u
  sources_to None done u need inside = absurd need
  sources_to (Some p) done u (inl left) inside = source_to (left_source p.node) (and_parts (is_done front n (left_source p.node)) (is_done front n (right_source p.node)) done).0 u left inside
  sources_to (Some p) done u (inr right) inside = source_to (right_source p.node) (and_parts (is_done front n (left_source p.node)) (is_done front n (right_source p.node)) done).1 u right inside

  sources_from : (o : Option Part) → ((u : Task) → IsInput o u.node → u.shard < n → Contains front u) → are_sound o (is_done front n) ≡ true
  sources_from None after = refl
  sources_from (Some p) after = and_from (is_done front n (left_source p.node)) (is_done front n (right_source p.node))
      (source_from (left_source p.node) (λ u of inside. after u (inl of) inside))
      (source_from (right_source p.node) (λ u of inside. after u (inr of) inside))

  -- ---- the test
  pub stands_if : (t : Task) → may_stand c n front t ≡ true → MayStand c n front t
  stands_if t passes =
      let both = and_parts (nat_lt t.node (length c) && nat_lt t.shard n) (not (is_in front t) && are_sound (slice_get c t.node) (is_done front n)) passes in
      let range = and_parts (nat_lt t.node (length c)) (nat_lt t.shard n) both.0 in
      let rest = and_parts (not (is_in front t)) (are_sound (slice_get c t.node) (is_done front n)) both.1 in
      record {
        once = λ there. not_in (is_in front t) rest.0 (contains_in front t there);
        in_range = record { low = ltb-true t.node (length c) range.0; inside = ltb-true t.shard n range.1 };
        after = λ u need inside. sources_to (slice_get c t.node) rest.1 u need inside;
      }

  pub passes_if : (t : Task) → MayStand c n front t → may_stand c n front t ≡ true
  passes_if t stands = and_from (nat_lt t.node (length c) && nat_lt t.shard n) (not (is_in front t) && are_sound (slice_get c t.node) (is_done front n))
      (and_from (nat_lt t.node (length c)) (nat_lt t.shard n) (lt-ltb t.node (length c) stands.in_range.low) (lt-ltb t.shard n stands.in_range.inside))
      (and_from (not (is_in front t)) (are_sound (slice_get c t.node) (is_done front n)) (not_from (is_in front t) (λ e. stands.once (in_contains front t e))) (sources_from (slice_get c t.node) stands.after))

-- ---- legal, or illegal at a first place
module _ (c : List Part) (n : ℕ) (order : List Task) (none : (at : ℕ) → FirstIllegal c n order at → ⊥) where
  stands_there : (i : ℕ) (t : Task) → slice_get order i ≡ Some t → IsLegal c n (take i order) → MayStand c n (take i order) t
  stands_there i t at front = step (may_stand c n (take i order) t) refl
    where
      step : (b : Bool) → may_stand c n (take i order) t ≡ b → MayStand c n (take i order) t
      step true passes = stands_if c n (take i order) t passes
      step false fails = absurd (none i (record { wrong = t; is = at; front = front; illegal = λ stands. (let same = sym fails ∙ passes_if c n (take i order) t stands in cc) }))

  legal_to : (k : ℕ) → IsLegal c n (take k order)
  legal_to zero i t at = absurd (cc at)
  legal_to (suc k) i t at = step (legal_to k) (cases_lt i k)
    where
      low : i < suc k
      low = got_within order (suc k) i t at

      there : slice_get order i ≡ Some t
      there = sym (got_taken order (suc k) i low) ∙ at

      step : IsLegal c n (take k order) → (i < k) ⊎ (k ≤ i) → MayStand c n (take i (take (suc k) order)) t
      step rest (inl less) = subst (λ ts. MayStand c n ts t) (taken_twice order k i (omega arith) ∙ sym (taken_twice order (suc k) i (omega arith))) (rest i t (got_taken order k i less ∙ there))
      step rest (inr high) =
          let last : k ≡ i = omega (arith, low, high) in
          subst (λ ts. MayStand c n ts t) (sym (taken_twice order (suc k) i (omega arith))) (stands_there i t there (subst (λ j. IsLegal c n (take j order)) last rest))

  pub legal_if : IsLegal c n order
  legal_if i t at = stands_there i t at (legal_to i)
