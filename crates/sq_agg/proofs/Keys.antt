-- The rows of a group.
use Rattle.std.proofs.Common.{◌≡◌, ◌+◌, ◌^◌, ◌≤◌, List, [], ◌∷◌, Bool, true, false, cond, not, filter, ℤ, pos, Some, None, refl, sym, ap, subst, ◌∙◌, is_eq, unsigned_abs, arith}
use Rattle.std.specs.Prelude.{◌≤ℤ◌}
use Rattle.std.specs.List.{All, AllByRecursion}
use Rattle.std.proofs.lemmas.List.Elements.{All-from_recursion, recursion_from_All}
use borrow.Author.Differences.{ints}
use Rattle.sq_algebra.specs.Operators.{IsNonNegative}
use Rattle.sq_algebra.proofs.NonNegativeLemmas.{nonnegative-keep, total-keep-le}
use Rattle.sq_ops.specs.Fits.{FitsRow, FitsRows}
use Rattle.std.proofs.lemmas.List.Sums.{sum_by-cons}
use Rattle.sq_value.specs.declared.value.Value.{Value}
use Rattle.sq_value.specs.Order.{row_cmp}
use Rattle.sq_value.specs.OrderLaws.{row_cmp-total, row_cmp-antisymmetric}
use Rattle.sq_algebra.specs.Keyed.{at_key}
use Rattle.sq_algebra.specs.Operators.{keep}
use Rattle.sq_algebra.specs.ZSet.{ZSet, entries, from_pairs, total}
use Rattle.sq_algebra.proofs.EntryLemmas.{entries-at_key}
use Rattle.sq_zset.specs.declared.pair.Pair.{Pair}
use Rattle.sq_zset.specs.Collecting.{mass_of}
use Rattle.sq_zset.specs.Pairs.{mass, weighted_rows}
use Rattle.sq_zset.specs.Range.{first_outside, first_outside_in, IsInRange}
use Rattle.sq_zset.proofs.Entries.{none_first}
use Rattle.sq_ops.specs.declared.aggregate.AggSpec.{AggSpec}
use Rattle.sq_ops.specs.Aggregates.{SuitsSpec, group_of, rows_of_group}
use Rattle.sq_ops.specs.Measures.{IsMeasurable}

-- ---- the rows of a group
pub group_rows : (spec : AggSpec) (key : List Value) (z : ZSet (List Value) row_cmp) → from_pairs row_cmp (filter (λ e. is_eq (row_cmp key (group_of spec e.0))) (entries z)) ≡ rows_of_group spec z key
unfolding at_key keep
group_rows spec key z = refl

pub masses : (pairs : List Pair) → mass pairs ≡ mass_of (weighted_rows pairs)
masses [] = refl
masses (p ∷ pairs) =
    sum_by-cons (λ (q : Pair). unsigned_abs q.weight) p pairs ∙ ap (λ m. unsigned_abs p.weight + m) (masses pairs)
    ∙ sym (sum_by-cons (λ (e : List Value × ℤ). unsigned_abs e.1) (p.row, p.weight) (weighted_rows pairs))

module _ (p : List Value × ℤ → Bool) where
  less_mass : (es : List (List Value × ℤ)) → mass_of (filter p es) ≤ mass_of es
  less_mass [] = omega arith
  less_mass (e ∷ es) =
      let rest = less_mass es in
      let whole = sum_by-cons (λ (d : List Value × ℤ). unsigned_abs d.1) e es in
      let more = sum_by-cons (λ (d : List Value × ℤ). unsigned_abs d.1) e (filter p es) in
      elim (p e) as (λ b. mass_of (cond b (e ∷ filter p es) (filter p es)) ≤ mass_of (e ∷ es)) [ true ↦ omega arith | false ↦ omega arith ]

  still_inside : (es : List (List Value × ℤ)) → first_outside_in es ≡ None → first_outside_in (filter p es) ≡ None
  still_inside [] h = refl
  still_inside (e ∷ es) h =
      let parts = none_first e es h in
      elim (p e) as (λ b. first_outside_in (cond b (e ∷ filter p es) (filter p es)) ≡ None) [
        | true ↦ ap (λ b. cond (not b) (Some e.1) (first_outside_in (filter p es))) parts.0 ∙ still_inside es parts.1
        | false ↦ still_inside es parts.1
      ]

module _ (spec : AggSpec) (key : List Value) (z : ZSet (List Value) row_cmp) (pairs : List Pair) (made : weighted_rows pairs ≡ filter (λ e. is_eq (row_cmp key (group_of spec e.0))) (entries z)) where
  pub group_weighs : IsMeasurable z → mass pairs ≤ 2 ^ 126
  group_weighs group =
      let weighs = masses pairs ∙ ap mass_of made in
      let less = less_mass (λ e. is_eq (row_cmp key (group_of spec e.0))) (entries z) in
      let small = group.few in
      omega arith

  pub group_made : from_pairs row_cmp (weighted_rows pairs) ≡ rows_of_group spec z key
  group_made = ap (from_pairs row_cmp) made ∙ group_rows spec key z

  pub group_never_outside : IsInRange z → (sum : ℤ) → first_outside (from_pairs row_cmp (weighted_rows pairs)) ≡ Some sum → ⊥
  group_never_outside inside sum outside =
      let within : first_outside (rows_of_group spec z key) ≡ None =
      ap first_outside_in (entries-at_key row_cmp row_cmp-total row_cmp (group_of spec) key z) ∙ still_inside (λ e. is_eq (row_cmp key (group_of spec e.0))) (entries z) inside in
      let both = ap first_outside group_made ∙ within in
      absurd (cc (both, outside))

-- ---- what holds of all rows holds of those of a group
kept_by : {X : Type 0} (P : X → Type 0) (p : X → Bool) (xs : List X) → AllByRecursion P xs → AllByRecursion P (filter p xs)
kept_by P p [] h = tt
kept_by P p (x ∷ xs) h = elim (p x) as (λ b. AllByRecursion P (cond b (x ∷ filter p xs) (filter p xs))) [ true ↦ (h.0, kept_by P p xs h.1) | false ↦ kept_by P p xs h.1 ]

pub group_fits : (spec : AggSpec) (key : List Value) (z : ZSet (List Value) row_cmp) → FitsRows (SuitsSpec spec) z → FitsRows (SuitsSpec spec) (rows_of_group spec z key)
group_fits spec key z fits =
    subst (λ es. All (λ e. FitsRow (SuitsSpec spec) e.0) es) (sym (entries-at_key row_cmp row_cmp-total row_cmp (group_of spec) key z))
    (All-from_recursion (λ (e : List Value × ℤ). FitsRow (SuitsSpec spec) e.0) (filter (λ e. is_eq (row_cmp key (group_of spec e.0))) (entries z))
    (kept_by (λ (e : List Value × ℤ). FitsRow (SuitsSpec spec) e.0) (λ e. is_eq (row_cmp key (group_of spec e.0))) (entries z) (recursion_from_All (λ (e : List Value × ℤ). FitsRow (SuitsSpec spec) e.0) (entries z) fits)))

pub group_not_negative : (spec : AggSpec) (key : List Value) (z : ZSet (List Value) row_cmp) → IsNonNegative z → IsNonNegative (rows_of_group spec z key)
unfolding at_key
group_not_negative spec key z proper = nonnegative-keep row_cmp row_cmp-total row_cmp-antisymmetric (λ row. is_eq (row_cmp key (group_of spec row))) z proper

le_chain : (a b c : ℤ) → a ≤ℤ b → b ≤ℤ c → a ≤ℤ c
le_chain a b c g h = omega (arith, ints)

pub group_bounded : (spec : AggSpec) (key : List Value) (z : ZSet (List Value) row_cmp) → IsNonNegative z → total z ≤ℤ pos (2 ^ 61) → total (rows_of_group spec z key) ≤ℤ pos (2 ^ 61)
unfolding at_key
group_bounded spec key z proper bounded = le_chain _ (total z) (pos (2 ^ 61)) (total-keep-le row_cmp row_cmp-total row_cmp-antisymmetric (λ row. is_eq (row_cmp key (group_of spec row))) z proper) bounded
