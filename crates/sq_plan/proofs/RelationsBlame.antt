-- Who is to blame where parts stand behind others that belong to earlier views, and which node has the fault.
use Rattle.std.proofs.Common.{◌≡◌, ℕ, zero, suc, ◌+◌, ◌-◌, ◌<◌, ◌≤◌, Bool, true, false, ◌&&◌, ◌||◌, List, ◌++◌, length, Some, None, refl, sym, ap, ap₂, subst, ◌∙◌, arith, length-append}
use mathlib.Core.Logic.{◌⊎◌, inl, inr}
use Rattle.std.specs.Prelude.{Option, slice_get, ◌==◌}
use Rattle.std.specs.List.{AllByRecursion}
use Rattle.std.proofs.lemmas.Bool.Decides.{nat_tests}
use Rattle.std.proofs.lemmas.Option.{same_Some}
use Rattle.sq_circuit.specs.Circuits.{has_fault, owner_at, owner_in}
use Rattle.sq_circuit.specs.Invariant.{AreEarlier}
use Rattle.sq_circuit.specs.Nodes.{Rows}
use Rattle.sq_circuit.specs.declared.circuit.Part.{Part}
use Rattle.sq_circuit.proofs.Alongside.{got_front}
use Rattle.sq_circuit.proofs.Appending.{Behind, front_or_behind, got_behind}
use Rattle.sq_circuit.proofs.Growing.{fault_more}
use Rattle.sq_expr.proofs.Lists.{all_at}
use Rattle.sq_plan.specs.Drafts.{IsOwnedBy, blames_view, is_of, some_below}
use Rattle.sq_plan.proofs.Primitives.{or_false}

-- ---- numbers that pass a test
some_alike : (f g : ℕ → Bool) (n : ℕ) → ((i : ℕ) → i < n → f i ≡ g i) → some_below f n ≡ some_below g n
some_alike f g zero h = refl
some_alike f g (suc n) h = ap₂ (λ a b. a || b) (some_alike f g n (λ i low. h i (omega arith))) (h n (omega arith))

some_none : (f : ℕ → Bool) (n : ℕ) → ((i : ℕ) → i < n → f i ≡ false) → some_below f n ≡ false
some_none f zero h = refl
some_none f (suc n) h = ap₂ (λ a b. a || b) (some_none f n (λ i low. h i (omega arith))) (h n (omega arith))

-- k further numbers, none of which passes
some_stays : (f : ℕ → Bool) (n k m : ℕ) → m ≡ n + k → ((i : ℕ) → n ≤ i → i < m → f i ≡ false) → some_below f m ≡ some_below f n
some_stays f n zero m is none = let same : m ≡ n = omega arith in ap (some_below f) same
some_stays f n (suc k) zero is none = absurd (omega arith)
some_stays f n (suc k) (suc m) is none =
    ap (λ b. some_below f m || b) (none m (omega arith) (omega arith)) ∙ or_false (some_below f m)
    ∙ some_stays f n k m (omega arith) (λ i low high. none i low (omega arith))

pub record Passing (f : ℕ → Bool) (n : ℕ) : Type 0 where
  pub number : ℕ
  pub low : number < n
  pub passes : f number ≡ true

pub some_found : (f : ℕ → Bool) (n : ℕ) → some_below f n ≡ true → Passing f n
some_found f zero e = absurd (cc e)
some_found f (suc n) e = by_last (f n) refl (some_found f n)
  where
    earlier : Passing f n → Passing f (suc n)
    earlier p = record { number = p.number; low = let low = p.low in omega arith; passes = p.passes }

    by_last : (b : Bool) → f n ≡ b → (some_below f n ≡ true → Passing f n) → Passing f (suc n)
    by_last true is before = record { number = n; low = omega arith; passes = is }
    by_last false is before = earlier (before (sym (or_false (some_below f n)) ∙ ap (λ b. some_below f n || b) (sym is) ∙ e))

or_true : (a : Bool) → (a || true) ≡ true
or_true true = refl
or_true false = refl

pub some_passes : (f : ℕ → Bool) (n i : ℕ) → i < n → f i ≡ true → some_below f n ≡ true
some_passes f zero i low e = absurd (omega arith)
some_passes f (suc n) i low e = by_place (i == n) refl (λ less. some_passes f n i less e)
  where
    by_place : (b : Bool) → (i == n) ≡ b → (i < n → some_below f n ≡ true) → some_below f (suc n) ≡ true
    by_place true is before = let same : i ≡ n = grind (arith, nat_tests) in ap (λ b. some_below f n || b) (subst (λ j. f j ≡ true) same e) ∙ or_true (some_below f n)
    by_place false is before = let other : i < n = grind (arith, nat_tests) in ap (λ b. b || f n) (before other)

-- ---- owners
differ : (v w : ℕ) → w < v → (v == w) ≡ false
differ v w low = grind (arith, nat_tests)

same_number : (v : ℕ) → (v == v) ≡ true
same_number v = grind (arith, nat_tests)

-- a view to which no node belongs yet
pub none_yet : (c : List Part) (v : ℕ) (tables : List Rows) → ((i w : ℕ) → owner_at c i ≡ Some w → w < v) → blames_view c tables v ≡ false
none_yet c v tables owners = some_none (λ i. is_of v (owner_at c i) && has_fault c tables i) (length c) (λ i low. ap (λ b. b && has_fault c tables i) (not_of i (owner_at c i) refl))
  where
    not_of : (i : ℕ) (o : Option ℕ) → owner_at c i ≡ o → is_of v o ≡ false
    not_of i None is = refl
    not_of i (Some w) is = let low = owners i w is in grind (arith, nat_tests)

module _ (c more : List Part) (v : ℕ) (owned : AllByRecursion (IsOwnedBy v) more) where
  behind_owned : (j : ℕ) (o : Option Part) → slice_get more j ≡ o → (w : ℕ) → owner_in o ≡ Some w → w ≡ v
  behind_owned j None is w e = absurd (cc e)
  behind_owned j (Some p) is w e = same_Some w v (sym e ∙ all_at (IsOwnedBy v) more j p owned is)

  -- the owners of both
  pub owners_more : ((i w : ℕ) → owner_at c i ≡ Some w → w < v) → (i w : ℕ) → owner_at (c ++ more) i ≡ Some w → w < v + 1
  owners_more owners i w e = by_part (slice_get (c ++ more) i) refl
    where
      by_place : (p : Part) → slice_get (c ++ more) i ≡ Some p → (slice_get c i ≡ Some p) ⊎ Behind (length c) more i p → w < v + 1
      by_place p is (inl front) = let low = owners i w (ap owner_in front ∙ sym (ap owner_in is) ∙ e) in omega arith
      by_place p is (inr b) = let same = behind_owned b.place (Some p) b.at w (sym (ap owner_in is) ∙ e) in omega arith

      by_part : (o : Option Part) → slice_get (c ++ more) i ≡ o → w < v + 1
      by_part None is = absurd (cc (sym (ap owner_in is) ∙ e))
      by_part (Some p) is = by_place p is (front_or_behind c more i p is)

  module _ (earlier : AreEarlier c) (tables : List Rows) where
    abbrev faulty : ℕ → ℕ → Bool
    faulty w i = is_of w (owner_at (c ++ more) i) && has_fault (c ++ more) tables i

    -- an earlier view is to blame if it was
    pub others_still : (w : ℕ) → w < v → blames_view (c ++ more) tables w ≡ blames_view c tables w
    others_still w low =
        some_stays (faulty w) (length c) (length more) (length (c ++ more)) (length-append c more) (λ i high less. ap (λ b. b && has_fault (c ++ more) tables i) (not_of i high))
        ∙ some_alike (faulty w) (λ i. is_of w (owner_at c i) && has_fault c tables i) (length c)
        (λ i less. ap₂ (λ a b. is_of w (owner_in a) && b) (got_front c more i less) (fault_more c more tables earlier i less))
      where
        none_of : (o : Option ℕ) → ((u : ℕ) → o ≡ Some u → u ≡ v) → is_of w o ≡ false
        none_of None h = refl
        none_of (Some u) h = let same = h u refl in grind (arith, nat_tests)

        not_of : (i : ℕ) → length c ≤ i → is_of w (owner_at (c ++ more) i) ≡ false
        not_of i high =
            let j = i - length c in
            let at : slice_get (c ++ more) i ≡ slice_get more j = got_behind c more j i (omega arith) in
            ap (λ o. is_of w (owner_in o)) at ∙ none_of (owner_in (slice_get more j)) (λ u e. behind_owned j (slice_get more j) refl u e)
