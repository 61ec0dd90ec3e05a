-- The least and the greatest kept argument after a change are MIN and MAX of the group.
use Rattle.std.proofs.Common.{◌≡◌, ℕ, List, [], ◌∷◌, ◌++◌, true, false, cond, ℤ, pos, ◌+ℤ◌, ◌≤ℤ◌, Some, refl, sym, ap, ap₂, subst, ◌∙◌, arith, Ordering, Less, Equal, Greater, is_eq, is_lt}
use Rattle.std.specs.Prelude.{slice_get}
use Rattle.std.specs.List.{flat_map}
use Rattle.std.specs.Ordering.{ordering_then}
use borrow.Author.Differences.{ints}
use Rattle.sq_value.specs.declared.value.Value.{Value}
use Rattle.sq_value.specs.declared.value.Value.TheVariants.{Null}
use Rattle.sq_value.specs.Order.{row_cmp, value_cmp}
use Rattle.sq_value.specs.OrderLaws.{row_cmp-total, row_cmp-antisymmetric}
use Rattle.sq_algebra.specs.Operators.{IsNonNegative, image, weighing}
use Rattle.sq_algebra.specs.ZSet.{ZSet, entries, plus, weight, weight_in}
use Rattle.sq_algebra.specs.Keyed.{at_key}
use Rattle.sq_algebra.proofs.NonNegativeLemmas.{nonnegative-keep}
use Rattle.sq_expr.specs.Meaning.{column_of}
use Rattle.sq_expr.specs.declared.expr.Func.TheVariants.{Max, Min}
use Rattle.sq_ops.specs.Aggregates.{call_value, group_of, has_value, rows_of_group}
use Rattle.sq_ops.specs.Arguments.{argument_of, argument_weight, arguments, arguments_of_group}
use Rattle.sq_ops.proofs.Arguments.{greatest_is_max, group_arguments_add, least_is_min, none_is_null}
use Rattle.sq_ops.specs.declared.aggregate.AggSpec.{AggSpec}
use Rattle.sq_ops.specs.declared.aggregate.Call.{Call}
use Rattle.sq_trace.specs.declared.entry.Entry.{Entry}
use Rattle.sq_trace.specs.Extremes.{IsGreatest, IsKeptNowhere, IsLeast, weight_after}
use Rattle.sq_zset.proofs.Rows.{weight-from_pairs, weight-plus}
use Rattle.sq_agg.specs.Kept.{HoldsArguments, argument_key, has_ends}

abbrev Row : Type 0
Row = List Value

-- ---- only rows of one value are kept
apart_here : (column : ℕ) (row : Row) (e : Row × ℤ) → ((x : Value) → is_eq (row_cmp row (x ∷ [])) ≡ false) → (rest : List (Row × ℤ)) → weight_in row_cmp row rest ≡ pos 0 → weight_in row_cmp row (weighing e.1 (argument_of column e.0) ++ rest) ≡ pos 0
apart_here column row e other rest none =
    elim (has_value column e.0) as (λ b. weight_in row_cmp row (weighing e.1 (cond b ((column_of e.0 column ∷ []) ∷ []) []) ++ rest) ≡ pos 0) [
      | true ↦ ap₂ (λ b n. cond b e.1 (pos 0) +ℤ n) (other (column_of e.0 column)) none
      | false ↦ none
    ]

apart : (column : ℕ) (row : Row) → ((x : Value) → is_eq (row_cmp row (x ∷ [])) ≡ false) → (es : List (Row × ℤ)) → weight_in row_cmp row (flat_map (λ e. weighing e.1 (argument_of column e.0)) es) ≡ pos 0
apart column row other [] = refl
apart column row other (e ∷ es) = apart_here column row e other (flat_map (λ e. weighing e.1 (argument_of column e.0)) es) (apart column row other es)

never_kept : (column : ℕ) (row : Row) (z : ZSet Row row_cmp) → ((x : Value) → is_eq (row_cmp row (x ∷ [])) ≡ false) → weight row (arguments column z) ≡ pos 0
unfolding image
never_kept column row z other = weight-from_pairs row (flat_map (λ e. weighing e.1 (argument_of column e.0)) (entries z)) ∙ apart column row other (entries z)

longer : (r : Ordering) → is_eq (ordering_then r Greater) ≡ false
longer Less = refl
longer Equal = refl
longer Greater = refl

not_one : (n : ℤ) → n ≡ pos 0 → pos 1 ≤ℤ n → ⊥
not_one n e h = omega (arith, ints)

lower : (r : Ordering) → is_lt (ordering_then r Equal) ≡ false → is_lt r ≡ false
lower Less e = e
lower Equal e = refl
lower Greater e = refl

module _ (column : ℕ) (z : ZSet Row row_cmp) (proper : IsNonNegative z) (w : Row → ℤ) (same : (row : Row) → w row ≡ weight row (arguments column z)) where
  kept : (row : Row) → pos 1 ≤ℤ w row → pos 1 ≤ℤ weight row (arguments column z)
  kept row there = subst (λ n. pos 1 ≤ℤ n) (same row) there

  back : (x : Value) → pos 1 ≤ℤ argument_weight column z x → pos 1 ≤ℤ w (x ∷ [])
  back x there = subst (λ n. pos 1 ≤ℤ n) (sym (same (x ∷ []))) there

  pub least_told : (row : Row) → IsLeast w row → call_value Min column z ≡ column_of row 0
  least_told [] least = absurd (not_one _ (never_kept column [] z (λ x. refl)) (kept [] least.there))
  least_told (x ∷ []) least = least_is_min column z proper x (record {
    there = kept (x ∷ []) least.there;
    none_below = λ y there. lower (value_cmp y x) (least.none_below (y ∷ []) (back y there));
  })
  least_told (x ∷ y ∷ row) least = absurd (not_one _ (never_kept column (x ∷ y ∷ row) z (λ v. longer (value_cmp x v))) (kept (x ∷ y ∷ row) least.there))

  pub greatest_told : (row : Row) → IsGreatest w row → call_value Max column z ≡ column_of row 0
  greatest_told [] greatest = absurd (not_one _ (never_kept column [] z (λ x. refl)) (kept [] greatest.there))
  greatest_told (x ∷ []) greatest = greatest_is_max column z proper x (record {
    there = kept (x ∷ []) greatest.there;
    none_above = λ y there. lower (value_cmp x y) (greatest.none_above (y ∷ []) (back y there));
  })
  greatest_told (x ∷ y ∷ row) greatest = absurd (not_one _ (never_kept column (x ∷ y ∷ row) z (λ v. longer (value_cmp x v))) (kept (x ∷ y ∷ row) greatest.there))

  pub none_told : IsKeptNowhere w → (call_value Min column z ≡ Null) × (call_value Max column z ≡ Null)
  none_told none = none_is_null column z proper (λ x there. none (x ∷ []) (back x there))

-- ---- after a change
module _ (spec : AggSpec) (parts : List (List (Entry ℤ))) (z d : ZSet Row row_cmp) (c : Row) (i : ℕ) (call : Call) where
  pub after_change : HoldsArguments spec parts z → slice_get spec.calls i ≡ Some call → has_ends call.func ≡ true → (row : Row)
      → weight_after (argument_key c i) parts (arguments_of_group spec call.arg c d) row ≡ weight row (arguments call.arg (rows_of_group spec (plus z d) c))
  after_change holds found ends row =
      ap (λ n. n +ℤ weight row (arguments_of_group spec call.arg c d)) (holds.held c row i call found ends)
      ∙ sym (ap (weight row) ((group_arguments_add spec call.arg c).of_plus z d) ∙ weight-plus row (arguments_of_group spec call.arg c z) (arguments_of_group spec call.arg c d))

  pub group_proper : IsNonNegative (plus z d) → IsNonNegative (rows_of_group spec (plus z d) c)
  unfolding at_key
  group_proper proper = nonnegative-keep row_cmp row_cmp-total row_cmp-antisymmetric (λ row. is_eq (row_cmp c (group_of spec row))) (plus z d) proper
