-- The entries of the rows of a Z-set stand at places of their own, and hold the Z-set by its keys.
use Rattle.std.proofs.Common.{◌≡◌, ℕ, ◌+◌, ◌<◌, List, [], ◌∷◌, ◌++◌, take, length, Bool, true, false, cond, not, ◌&&◌, T, ℤ, pos, ◌+ℤ◌, Option, Some, None, refl, sym, ap, ap₂, subst, ◌∙◌, append-nil, arith, Ordering, Less, Equal, Greater, is_eq, is_lt}
use Rattle.std.specs.Prelude.{slice_get}
use Rattle.std.specs.Ordering.{ordering_then}
use Rattle.std.specs.Cmp.{tied_itself}
use Rattle.std.proofs.lemmas.Grind.{flat_map-append}
use borrow.Author.Differences.{ints}
use Rattle.sq_expr.proofs.Lists.{take_more}
use Rattle.sq_value.specs.declared.value.Value.{Value}
use Rattle.sq_value.specs.Order.{row_cmp}
use Rattle.sq_value.specs.OrderLaws.{row_cmp-total, row_cmp-antisymmetric}
use Rattle.sq_algebra.specs.Groups.{integers}
use Rattle.sq_algebra.specs.Keyed.{at_some_key, is_key}
use Rattle.sq_algebra.specs.Listed.{is_below_all}
use Rattle.sq_algebra.specs.ZSet.{ZSet, entries, entries_canonical, is_canonical, keys, weight, weight_in}
use Rattle.sq_algebra.proofs.ListLemmas.{tie_back}
use Rattle.sq_algebra.proofs.Weights.{front_of, weight-entries}
use Rattle.sq_ops.specs.Indexes.{with_key}
use Rattle.sq_trace.specs.declared.entry.Entry.{Entry}
use Rattle.sq_trace.specs.Keys.{AllInRange, AreDistinct, NoneAt}
use Rattle.sq_trace.specs.Runs.{Place, at, content, place_of}
use Rattle.sq_zset.specs.Range.{first_outside_in, number_outside, is_in_range}
use Rattle.sq_join.specs.Stepping.{HoldsByKey}
use Rattle.sq_join.proofs.Holding.{at_key_is}
use Rattle.sq_tests_steps.specs.Kept.{entry_under, kept_under}

abbrev Row : Type 0
Row = List Value

zero_left : (n : ℤ) → pos 0 +ℤ n ≡ n
zero_left n = omega (arith, ints)

tied : (a b : Ordering) → is_eq (ordering_then a b) ≡ cond (is_eq a) (is_eq b) false
tied Less b = refl
tied Equal b = refl
tied Greater b = refl

-- ---- what the entries hold
one_at : (c row : Row) (o : Option Row) (e : Row × ℤ) (rest : List (Entry ℤ)) (es : List (Row × ℤ)) → at integers (c, row) rest ≡ weight_in row_cmp row es → at integers (c, row) (entry_under o e.0 e.1 ++ rest) ≡ weight_in row_cmp row (cond (is_key row_cmp c o) (e ∷ es) es)
one_at c row None e rest es same = same
one_at c row (Some d) e rest es same =
    ap₂ (λ b n. cond b e.1 (pos 0) +ℤ n)
    (tied (row_cmp d c) (row_cmp e.0 row) ∙ ap₂ (λ a b. cond a b false) (tie_back row_cmp row_cmp-total d c) (tie_back row_cmp row_cmp-total e.0 row)) same
    ∙ step (is_eq (row_cmp c d))
  where
    step : (b : Bool) → cond (cond b (is_eq (row_cmp row e.0)) false) e.1 (pos 0) +ℤ weight_in row_cmp row es ≡ weight_in row_cmp row (cond b (e ∷ es) es)
    step true = refl
    step false = zero_left (weight_in row_cmp row es)

module _ (key : Row → Option Row) where
  held_at : (c row : Row) (es : List (Row × ℤ)) → at integers (c, row) (kept_under key es) ≡ weight_in row_cmp row (with_key key c es)
  held_at c row [] = refl
  held_at c row (e ∷ es) = one_at c row (key e.0) e (kept_under key es) (with_key key c es) (held_at c row es)

  pub holds_kept : (z : ZSet Row row_cmp) (parts : List (List (Entry ℤ))) → ((p : Place) → content integers p parts ≡ at integers p (kept_under key (entries z))) → HoldsByKey key parts z
  holds_kept z parts same = record {
    held = λ c row. same (c, row) ∙ held_at c row (entries z) ∙ ap (weight_in row_cmp row) (sym (at_key_is c key z)) ∙ sym (weight-entries row_cmp row (at_some_key row_cmp key c z));
  }

  -- ---- places of their own
  apart : (row other : Row) → T (is_lt (row_cmp row other)) → other ≡ row → ⊥
  apart row other low same = step (row_cmp row other) (ap (row_cmp row) same ∙ tied_itself row_cmp-total row) low
    where
      step : (r : Ordering) → r ≡ Equal → T (is_lt r) → ⊥
      step Less e h = cc e
      step Equal e h = h
      step Greater e h = cc e

  left_of : (a b : Bool) → T (a && b) → T a
  left_of true b h = tt
  left_of false b h = absurd h

  right_of : (a b : Bool) → T (a && b) → T b
  right_of true b h = h
  right_of false b h = absurd h

  none_first : (p : Place) (o : Option Row) (e : Row × ℤ) (rest : List (Entry ℤ)) → T (is_lt (row_cmp p.1 e.0)) → NoneAt p rest → NoneAt p (entry_under o e.0 e.1 ++ rest)
  none_first p None e rest low none = none
  none_first p (Some c) e rest low none = (λ same. apart p.1 e.0 low (ap (λ (q : Place). q.1) same), none)

  none_at : (p : Place) (es : List (Row × ℤ)) → T (is_below_all row_cmp p.1 (keys es)) → NoneAt p (kept_under key es)
  none_at p [] low = tt
  none_at p (e ∷ es) low =
      none_first p (key e.0) e (kept_under key es) (left_of (is_lt (row_cmp p.1 e.0)) (is_below_all row_cmp p.1 (keys es)) low)
      (none_at p es (right_of (is_lt (row_cmp p.1 e.0)) (is_below_all row_cmp p.1 (keys es)) low))

  distinct_first : (o : Option Row) (e : Row × ℤ) (rest : List (Entry ℤ)) → ((p : Place) → p.1 ≡ e.0 → NoneAt p rest) → AreDistinct rest → AreDistinct (entry_under o e.0 e.1 ++ rest)
  distinct_first None e rest none distinct = distinct
  distinct_first (Some c) e rest none distinct = (none (c, e.0) refl, distinct)

  kept_distinct : (es : List (Row × ℤ)) → T (is_canonical row_cmp es) → AreDistinct (kept_under key es)
  kept_distinct [] h = tt
  kept_distinct (e ∷ es) h =
      let front = front_of row_cmp e es h in
      distinct_first (key e.0) e (kept_under key es) (λ p same. none_at p es (subst (λ row. T (is_below_all row_cmp row (keys es))) (sym same) front.below)) (kept_distinct es front.rest)

  pub rows_distinct : (z : ZSet Row row_cmp) (made : List (Entry ℤ)) → made ≡ kept_under key (entries z) → AreDistinct made
  rows_distinct z made is = subst (λ es. AreDistinct es) (sym is) (kept_distinct (entries z) (entries_canonical z))

  -- ---- within range
  in_first : (o : Option Row) (e : Row × ℤ) (rest : List (Entry ℤ)) → number_outside e.1 ≡ None → AllInRange number_outside rest → AllInRange number_outside (entry_under o e.0 e.1 ++ rest)
  in_first None e rest one all = all
  in_first (Some c) e rest one all = (one, all)

  one_in : (b : Bool) (n : ℤ) (found : Option ℤ) → ◌≡◌ {A = Option ℤ} (cond b (Some n) found) None → (◌≡◌ {A = Option ℤ} (cond b (Some n) None) None) × (found ≡ None)
  one_in true n found e = absurd (cc e)
  one_in false n found e = (refl, e)

  kept_in_range : (es : List (Row × ℤ)) → first_outside_in es ≡ None → AllInRange number_outside (kept_under key es)
  kept_in_range [] h = tt
  kept_in_range (e ∷ es) h =
      let apart = one_in (not (is_in_range e.1)) e.1 (first_outside_in es) h in
      in_first (key e.0) e (kept_under key es) apart.0 (kept_in_range es apart.1)

  pub rows_in_range : (z : ZSet Row row_cmp) (made : List (Entry ℤ)) → first_outside_in (entries z) ≡ None → made ≡ kept_under key (entries z) → AllInRange number_outside made
  rows_in_range z made inside is = subst (λ es. AllInRange number_outside es) (sym is) (kept_in_range (entries z) inside)

  -- ---- one row more
  pub kept_more : (es : List (Row × ℤ)) (i : ℕ) (row : Row) (n : ℤ) → slice_get es i ≡ Some (row, n) → kept_under key (take (i + 1) es) ≡ kept_under key (take i es) ++ entry_under (key row) row n
  kept_more es i row n found =
      ap (kept_under key) (take_more es i (row, n) found)
      ∙ flat_map-append (λ e. entry_under (key e.0) e.0 e.1) (take i es) ((row, n) ∷ [])
      ∙ ap (λ xs. kept_under key (take i es) ++ xs) (append-nil (entry_under (key row) row n))
