-- The first SUM outside the range of BIGINT over all groups is the first one over the groups that a step looks at.
use Rattle.std.proofs.Common.{◌≡◌, ℕ, ◌+◌, List, [], ◌∷◌, Bool, true, false, cond, not, ◌&&◌, T, ℤ, Option, None, refl, sym, ap, ap₂, subst, ◌∙◌, arith, is_eq, Less, Equal, Greater}
use mathlib.Core.Logic.{◌⊎◌, inl, inr}
use Rattle.std.specs.List.{AllByRecursion, flat_map}
use Rattle.std.specs.Option.{option_map, option_or}
use Rattle.std.specs.Ordering.{ordering_reverse}
use Rattle.std.proofs.lemmas.List.Elements.{recursion_from_All}
use Rattle.std.proofs.lemmas.List.Folds.{find-append}
use Rattle.sq_value.specs.Order.{row_cmp}
use Rattle.sq_value.specs.OrderLaws.{row_cmp-antisymmetric, row_cmp-total}
use Rattle.sq_algebra.specs.Keyed.{CoversOnce}
use Rattle.sq_algebra.specs.Listed.{count, is_ascending, is_below_all}
use Rattle.sq_algebra.specs.ZSet.{entries, entries-zero, plus, zero as no_rows}
use Rattle.sq_algebra.proofs.KeyedLemmas.{part_or_covered}
use Rattle.sq_algebra.proofs.Lists.{below_less, count-cons}
use Rattle.sq_expr.specs.Bigint.{first_not_bigint, is_bigint}
use Rattle.sq_ops.specs.Aggregates.{first_sum_outside, group_of, groups_of, rows_of_group, sums_of}
use Rattle.sq_ops.specs.Wholes.{has_no_values}
use Rattle.sq_ops.specs.declared.aggregate.AggSpec.{AggSpec}
use Rattle.sq_ops.proofs.Grouping.{none_tested}
use Rattle.sq_ops.proofs.Outside.{sums_of_each_key}
use Rattle.sq_agg.specs.Aggregating.{AggState, touched}
use Rattle.sq_agg.specs.Kept.{KeptAccumulators, Row, Rows}
use Rattle.sq_agg.specs.Stepping.{KeptWeights}
use Rattle.sq_agg.proofs.Homes.{left_true, no_front, not_below, right_true, same_tied, tied}
use Rattle.sq_agg.proofs.Shown.{first_keyed, keyed, tested, with_its_key}
use Rattle.sq_agg.proofs.Touching.{all_ascend, all_covered, none_or_touched, touched_ascend, unchanged}

-- ---- the first answer along an ascending list
module _ {X : Type 0} (f : Row → Option X) where
  abbrev firsts : List Row → Option X
  firsts [] = None
  firsts (c ∷ cs) = option_or (f c) (firsts cs)

  abbrev AreCounted : List Row → (Row → ℕ) → Type 0
  AreCounted cs n = (x : Row) → (f x ≡ None) ⊎ (count row_cmp x cs ≡ n x)

  same_count : (b : Bool) (m n : ℕ) → b ≡ false → cond b 1 0 + m ≡ n → m ≡ n
  same_count true m n e h = absurd (cc e)
  same_count false m n e h = sym (no_front m) ∙ h

  without_first : (c : Row) (cs : List Row) (n : Row → ℕ) → f c ≡ None → AreCounted (c ∷ cs) n → AreCounted cs n
  without_first c cs n none all x =
      elim (is_eq (row_cmp x c)) as (λ b. is_eq (row_cmp x c) ≡ b → (f x ≡ None) ⊎ (count row_cmp x cs ≡ n x)) [
        | true ↦ λ e. inl (ap f (row_cmp-antisymmetric x c (tied (row_cmp x c) e)) ∙ none)
        | false ↦ λ e. step e (all x)
      ] refl
    where
      step : is_eq (row_cmp x c) ≡ false → (f x ≡ None) ⊎ (count row_cmp x (c ∷ cs) ≡ n x) → (f x ≡ None) ⊎ (count row_cmp x cs ≡ n x)
      step e (inl h) = inl h
      step e (inr h) = inr (same_count (is_eq (row_cmp x c)) (count row_cmp x cs) (n x) e (sym (count-cons row_cmp x c cs) ∙ h))

  turned : (cs ds : List Row) → AreCounted cs (λ x. count row_cmp x ds) → AreCounted ds (λ x. count row_cmp x cs)
  turned cs ds all x = step (all x)
    where
      step : (f x ≡ None) ⊎ (count row_cmp x cs ≡ count row_cmp x ds) → (f x ≡ None) ⊎ (count row_cmp x ds ≡ count row_cmp x cs)
      step (inl h) = inl h
      step (inr h) = inr (sym h)

  some_here : (c : Row) (cs : List Row) → count row_cmp c (c ∷ cs) ≡ 0 → ⊥
  some_here c cs e = let one = sym (count-cons row_cmp c c cs ∙ ap (λ b. cond b 1 0 + count row_cmp c cs) (same_tied c c refl)) ∙ e in absurd (omega arith)

  none_there : (c : Row) (cs ds : List Row) → count row_cmp c ds ≡ 0 → AreCounted (c ∷ cs) (λ x. count row_cmp x ds) → f c ≡ None
  none_there c cs ds none all = step (all c)
    where
      step : (f c ≡ None) ⊎ (count row_cmp c (c ∷ cs) ≡ count row_cmp c ds) → f c ≡ None
      step (inl h) = h
      step (inr h) = absurd (some_here c cs (h ∙ none))

  none_along : (ds : List Row) → AreCounted ds (λ x. 0) → firsts ds ≡ None
  none_along [] all = refl
  none_along (d ∷ ds) all =
      let none : f d ≡ None = none_there d ds [] refl all in
      ap (λ o. option_or o (firsts ds)) none ∙ none_along ds (without_first d ds (λ x. 0) none all)

  cancel_both : (b : Bool) (m n : ℕ) → cond b 1 0 + m ≡ cond b 1 0 + n → m ≡ n
  cancel_both true m n e = omega arith
  cancel_both false m n e = sym (no_front m) ∙ e ∙ no_front n

  both_first : (c d : Row) (cs ds : List Row) → c ≡ d → AreCounted (c ∷ cs) (λ x. count row_cmp x (d ∷ ds)) → AreCounted cs (λ x. count row_cmp x ds)
  both_first c d cs ds same all x = step (all x)
    where
      step : (f x ≡ None) ⊎ (count row_cmp x (c ∷ cs) ≡ count row_cmp x (d ∷ ds)) → (f x ≡ None) ⊎ (count row_cmp x cs ≡ count row_cmp x ds)
      step (inl h) = inl h
      step (inr h) =
          inr (cancel_both (is_eq (row_cmp x c)) (count row_cmp x cs) (count row_cmp x ds)
          (sym (count-cons row_cmp x c cs) ∙ h ∙ count-cons row_cmp x d ds ∙ ap (λ k. cond (is_eq (row_cmp x k)) 1 0 + count row_cmp x ds) (sym same)))

  below_first : (c d : Row) (ds : List Row) → row_cmp c d ≡ Less → T (is_below_all row_cmp d ds) → count row_cmp c (d ∷ ds) ≡ 0
  below_first c d ds less below =
      count-cons row_cmp c d ds ∙ ap (λ o. cond (is_eq o) 1 0 + count row_cmp c ds) less
      ∙ no_front (count row_cmp c ds) ∙ not_below c ds (below_less row_cmp row_cmp-total c d ds less below)

  module _ (c : Row) (cs : List Row) (below : T (is_below_all row_cmp c cs))
      (others : (ds : List Row) → T (is_ascending row_cmp ds) → AreCounted cs (λ x. count row_cmp x ds) → firsts cs ≡ firsts ds) where
    along : (ds : List Row) → T (is_ascending row_cmp ds) → AreCounted (c ∷ cs) (λ x. count row_cmp x ds) → firsts (c ∷ cs) ≡ firsts ds
    along [] up all =
        let none : f c ≡ None = none_there c cs [] refl all in
        ap (λ o. option_or o (firsts cs)) none ∙ others [] tt (without_first c cs (λ x. 0) none all)
    along (d ∷ ds) up all =
        let below_d : T (is_below_all row_cmp d ds) = left_true _ _ up in
        let rest : T (is_ascending row_cmp ds) = right_true (is_below_all row_cmp d ds) (is_ascending row_cmp ds) up in
        let later : AreCounted (c ∷ cs) (λ x. count row_cmp x ds) → firsts (c ∷ cs) ≡ firsts ds = along ds rest in
        elim (row_cmp c d) as (λ o. row_cmp c d ≡ o → firsts (c ∷ cs) ≡ firsts (d ∷ ds)) [
          | Less ↦ λ e.
              let none : f c ≡ None = none_there c cs (d ∷ ds) (below_first c d ds e below_d) all in
              ap (λ o. option_or o (firsts cs)) none ∙ others (d ∷ ds) up (without_first c cs (λ x. count row_cmp x (d ∷ ds)) none all)
          | Equal ↦ λ e.
              let same : c ≡ d = row_cmp-antisymmetric c d e in
              ap₂ (λ k o. option_or (f k) o) same (others ds rest (both_first c d cs ds same all))
          | Greater ↦ λ e.
              let back : row_cmp d c ≡ Less = row_cmp-total.antisymm d c ∙ ap ordering_reverse e in
              let none : f d ≡ None = none_there d ds (c ∷ cs) (below_first d c cs back below) (turned (c ∷ cs) (d ∷ ds) all) in
              later (turned ds (c ∷ cs) (without_first d ds (λ x. count row_cmp x (c ∷ cs)) none (turned (c ∷ cs) (d ∷ ds) all)))
              ∙ sym (ap (λ o. option_or o (firsts ds)) none)
        ] refl

  same_firsts : (cs ds : List Row) → T (is_ascending row_cmp cs) → T (is_ascending row_cmp ds) → AreCounted cs (λ x. count row_cmp x ds) → firsts cs ≡ firsts ds
  same_firsts [] ds low up all = sym (none_along ds (turned [] ds all))
  same_firsts (c ∷ cs) ds low up all =
      along c cs (left_true _ _ low) (λ es. same_firsts cs es (right_true (is_below_all row_cmp c cs) (is_ascending row_cmp cs) low)) ds up all

-- ---- the first SUM of each group
module _ (spec : AggSpec) (z : Rows) where
  abbrev pub first_of_group : Row → Option (Row × ℤ)
  first_of_group c = option_map (keyed c) (first_not_bigint (sums_of spec.calls (rows_of_group spec z c)))

  pub group_by_group : (cs : List Row) → first_keyed (flat_map (tested spec z) cs) ≡ firsts first_of_group cs
  group_by_group [] = refl
  group_by_group (c ∷ cs) =
      find-append (λ (s : Row × ℤ). not (is_bigint s.1)) (tested spec z c) (flat_map (tested spec z) cs)
      ∙ ap₂ option_or (with_its_key c (sums_of spec.calls (rows_of_group spec z c))) (group_by_group cs)

  none_of_none : (c : Row) → rows_of_group spec z c ≡ no_rows row_cmp → first_not_bigint (sums_of spec.calls (rows_of_group spec z c)) ≡ None
  none_of_none c none =
      none_tested spec.calls (rows_of_group spec z c) true
      (ap (λ y. has_no_values (entries y) && true) none ∙ ap (λ es. has_no_values es && true) (entries-zero row_cmp))

-- what holds of all members holds of a key that stands among them
found_among : (P : Row → Type 0) (cs : List Row) → AllByRecursion P cs → (c : Row) → count row_cmp c cs ≡ 1 → P c
found_among P [] h c once = absurd (cc once)
found_among P (x ∷ cs) h c once =
    elim (is_eq (row_cmp c x)) as (λ b. is_eq (row_cmp c x) ≡ b → P c) [
      | true ↦ λ e. subst P (sym (row_cmp-antisymmetric c x (tied (row_cmp c x) e))) h.0
      | false ↦ λ e. found_among P cs h.1 c (sym (no_front (count row_cmp c cs)) ∙ sym (count-cons row_cmp c x cs ∙ ap (λ b. cond b 1 0 + count row_cmp c cs) e) ∙ once)
    ] refl

module _ (spec : AggSpec) (accs : KeptAccumulators) (ordered shown : KeptWeights) (d : Rows) (first : Bool) (s : AggState spec accs ordered shown d first) where
  none_before : (c : Row) → first_not_bigint (sums_of spec.calls (rows_of_group spec s.old c)) ≡ None
  none_before c = step (part_or_covered row_cmp row_cmp-total row_cmp-antisymmetric row_cmp row_cmp-total row_cmp-antisymmetric (group_of spec) c s.old)
    where
      step : (rows_of_group spec s.old c ≡ no_rows row_cmp) ⊎ ((cs : List Row) → CoversOnce row_cmp (group_of spec) cs s.old → count row_cmp c cs ≡ 1)
          → first_not_bigint (sums_of spec.calls (rows_of_group spec s.old c)) ≡ None
      step (inl none) = none_of_none spec s.old c none
      step (inr once) =
          found_among (λ k. first_not_bigint (sums_of spec.calls (rows_of_group spec s.old k)) ≡ None) (groups_of spec s.old)
          (recursion_from_All (λ k. first_not_bigint (sums_of spec.calls (rows_of_group spec s.old k)) ≡ None) (groups_of spec s.old) ((sums_of_each_key spec s.old).0 s.all_sums))
          c (once (groups_of spec s.old) (all_covered spec s.old))

  told : (c : Row) → (first_of_group spec (plus s.old d) c ≡ None) ⊎ (count row_cmp c (groups_of spec (plus s.old d)) ≡ count row_cmp c (touched first spec d))
  told c = step (none_or_touched spec d first c) (part_or_covered row_cmp row_cmp-total row_cmp-antisymmetric row_cmp row_cmp-total row_cmp-antisymmetric (group_of spec) c (plus s.old d))
    where
      step : (rows_of_group spec d c ≡ no_rows row_cmp) ⊎ (count row_cmp c (touched first spec d) ≡ 1)
          → (rows_of_group spec (plus s.old d) c ≡ no_rows row_cmp) ⊎ ((cs : List Row) → CoversOnce row_cmp (group_of spec) cs (plus s.old d) → count row_cmp c cs ≡ 1)
          → (first_of_group spec (plus s.old d) c ≡ None) ⊎ (count row_cmp c (groups_of spec (plus s.old d)) ≡ count row_cmp c (touched first spec d))
      step (inl none) there = inl (ap (λ y. option_map (keyed c) (first_not_bigint (sums_of spec.calls y))) (unchanged spec accs ordered shown d first s c none) ∙ ap (option_map (keyed c)) (none_before c))
      step (inr once) (inl none) = inl (ap (option_map (keyed c)) (none_of_none spec (plus s.old d) c none))
      step (inr once) (inr all) = inr (all (groups_of spec (plus s.old d)) (all_covered spec (plus s.old d)) ∙ sym once)

  pub first_sums : first_sum_outside spec (plus s.old d) ≡ first_keyed (flat_map (tested spec (plus s.old d)) (touched first spec d))
  first_sums =
      group_by_group spec (plus s.old d) (groups_of spec (plus s.old d))
      ∙ same_firsts (first_of_group spec (plus s.old d)) (groups_of spec (plus s.old d)) (touched first spec d) (all_ascend spec (plus s.old d)) (touched_ascend spec d first) told
      ∙ sym (group_by_group spec (plus s.old d) (touched first spec d))
