-- What the entries of all groups make of the traces: they hold afterwards what belongs to the old rows and their change.
use Rattle.std.proofs.Common.{◌≡◌, ◌+◌, ℕ, List, [], ◌∷◌, ◌++◌, Bool, true, false, cond, not, ◌&&◌, ℤ, pos, ◌+ℤ◌, ◌-ℤ◌, Some, None, refl, sym, ap, ap₂, subst, ◌∙◌, arith, ◌≤◌, unsigned_abs}
use Rattle.std.specs.Prelude.{slice_get}
use mathlib.Core.Logic.{◌⊎◌, inl, inr}
use Rattle.std.specs.List.{AllByRecursion, flat_map}
use Rattle.std.specs.Ordering.{nat_cmp}
use borrow.Author.Differences.{ints}
use Rattle.sq_expr.proofs.Lists.{all_append}
use Rattle.sq_value.specs.declared.value.Value.TheVariants.{Int}
use Rattle.sq_value.specs.Order.{row_cmp}
use Rattle.sq_value.specs.OrderLaws.{row_cmp-antisymmetric, row_cmp-total}
use Rattle.sq_algebra.specs.Groups.{integers, z_sets}
use Rattle.sq_algebra.specs.Listed.{count}
use Rattle.sq_algebra.specs.ZSet.{entries, entries-zero, minus, plus, weight, zero as no_rows}
use Rattle.sq_algebra.proofs.OperatorLemmas.{of_list-nil}
use Rattle.sq_algebra.proofs.KeyedLemmas.{at_key-zero}
use Rattle.sq_ops.specs.Aggregates.{group_row, part_of, rows_of_group}
use Rattle.sq_ops.specs.Arguments.{arguments}
use Rattle.sq_ops.specs.Wholes.{has_no_values}
use Rattle.sq_ops.specs.declared.aggregate.AggSpec.{AggSpec}
use Rattle.sq_ops.specs.declared.aggregate.Call.{Call}
use Rattle.sq_ops.proofs.Arguments.{group_arguments_add}
use Rattle.sq_trace.specs.Keys.{AllInRange, AreDistinct, IsRunOf}
use Rattle.sq_trace.specs.Runs.{at}
use Rattle.sq_trace.specs.declared.entry.Entry.{Entry}
use Rattle.sq_zset.specs.GroupLaws.{integers_are_abelian}
use Rattle.sq_zset.specs.Range.{number_outside}
use Rattle.sq_zset.proofs.RowKeys.{at_key-plus}
use Rattle.sq_zset.proofs.RowOperators.{image-zero}
use Rattle.sq_zset.proofs.Rows.{weight-minus, weight-plus, weight-zero}
use Rattle.sq_ops.specs.Arguments.{argument_of, arguments_of_group}
use Rattle.sq_agg.specs.Accumulators.{accumulated, first_number_outside}
use Rattle.sq_agg.specs.Aggregating.{AggState, KeepsAccumulators, KeepsArguments, KeepsShown, before, touched}
use Rattle.sq_agg.specs.Entering.{accumulator_entries, accumulators_of, argument_entries, arguments_of_calls, moves_of, row_after, row_before, shown_entries}
use Rattle.sq_agg.specs.GroupLaws.{accumulators_are_abelian}
use Rattle.sq_agg.specs.Kept.{KeptAccumulators, Row, Rows, argument_key, has_ends}
use Rattle.sq_agg.specs.Shifts.{as_rows, shown_row}
use Rattle.sq_agg.specs.Stepping.{Accumulator, KeptWeights}
use Rattle.sq_agg.proofs.Adding.{accumulated-IsAdditive, accumulated-zero}
use Rattle.sq_agg.proofs.Following.{accumulated_within}
use Rattle.sq_agg.proofs.GroupRows.{part_is_row}
use Rattle.sq_agg.proofs.Entered.{accumulator_at, accumulator_distinct, accumulator_home, argument_at, argument_distinct, argument_home, argument_within, front_is}
use Rattle.sq_agg.proofs.Entered.{front_of_key, itself, shown_at, shown_distinct, shown_home, shown_none, shown_units, shown_within}
use Rattle.sq_agg.proofs.Homes.{at_one, distinct-flat, within-flat}
use Rattle.sq_agg.proofs.Touching.{few, few_arguments, group_few, none_or_touched, standing_touched, touched_ascend, unchanged}
use Rattle.sq_ops.proofs.Grouping.{fitting_change}
use Rattle.sq_agg.proofs.Keys.{group_fits}
use Rattle.sq_ops.specs.Aggregates.{SuitsSpec, group_of}

-- ---- the row before and the row after, as parts
pub row_is_part : (first : Bool) (spec : AggSpec) (y : Rows) (c : Row) → as_rows (row_before first spec y c) ≡ before first (part_of spec.global spec.calls c (rows_of_group spec y c))
row_is_part true spec y c = of_list-nil row_cmp row_cmp-total row_cmp-antisymmetric
row_is_part false spec y c = sym (part_is_row spec.global spec.calls c (rows_of_group spec y c))

pub rows_are_parts : (first : Bool) (spec : AggSpec) (y d : Rows) (c : Row)
    → minus (as_rows (row_after spec y d c)) (as_rows (row_before first spec y c))
    ≡ minus (part_of spec.global spec.calls c (rows_of_group spec (plus y d) c)) (before first (part_of spec.global spec.calls c (rows_of_group spec y c)))
rows_are_parts first spec y d c = ap₂ minus (sym (part_is_row spec.global spec.calls c (rows_of_group spec (plus y d) c))) (row_is_part first spec y c)

back : (m n : ℤ) → m +ℤ (n -ℤ m) ≡ n
back m n = omega (arith, ints)

nothing_stands : (spec : AggSpec) (c : Row) → spec.global && has_no_values c ≡ false → shown_row spec.global spec.calls c (no_rows row_cmp) ≡ None
nothing_stands spec c e =
    ap (λ b. cond (has_no_values (entries (no_rows row_cmp)) && not b) None (Some (group_row spec.calls c (no_rows row_cmp)))) e
    ∙ ap (λ es. cond (has_no_values es && true) None (Some (group_row spec.calls c (no_rows row_cmp)))) (entries-zero row_cmp)

stands_here : (c : Row) (g : Bool) → g && has_no_values c ≡ true → (g ≡ true) × (c ≡ [])
stands_here [] true e = (refl, refl)
stands_here [] false e = absurd (cc e)
stands_here (x ∷ c) true e = absurd (cc e)
stands_here (x ∷ c) false e = absurd (cc e)

each-flat : {X : Type 0} (P : X → Type 0) (f : Row → List X) → ((c : Row) → AllByRecursion P (f c)) → (cs : List Row) → AllByRecursion P (flat_map f cs)
each-flat P f each [] = tt
each-flat P f each (c ∷ cs) = all_append P (f c) (flat_map f cs) (each c) (each-flat P f each cs)

module _ (spec : AggSpec) (accs : KeptAccumulators) (ordered shown : KeptWeights) (d : Rows) (first : Bool) (s : AggState spec accs ordered shown d first) where
  -- ---- accumulators
  pub accumulators_apart : AreDistinct (accumulators_of first spec d)
  accumulators_apart =
      distinct-flat itself (λ c. accumulator_entries spec.calls c (rows_of_group spec d c)) (λ c. accumulator_home spec.calls c (rows_of_group spec d c))
      (λ c. accumulator_distinct spec.calls c (rows_of_group spec d c)) (touched first spec d) (touched_ascend spec d first)

  pub accumulators_within : AllInRange first_number_outside (accumulators_of first spec d)
  accumulators_within =
      within-flat first_number_outside (λ c. accumulator_entries spec.calls c (rows_of_group spec d c))
      (λ c. (
        accumulated_within (rows_of_group spec d c) (fitting_change (SuitsSpec spec) (rows_of_group spec d c) (group_fits spec c d s.change_fits)
            (group_few spec c d (few spec accs ordered shown d first s))) spec.calls,
        tt,
      ))
      (touched first spec d)

  accumulators_at : (c row : Row) → at (z_sets nat_cmp) (c, row) (accumulators_of first spec d) ≡ cond (has_no_values row) (accumulated spec.calls (rows_of_group spec d c)) (no_rows nat_cmp)
  accumulators_at c row =
      at_one itself (λ k. accumulator_entries spec.calls k (rows_of_group spec d k)) (λ k. accumulator_home spec.calls k (rows_of_group spec d k)) (z_sets nat_cmp) accumulators_are_abelian (c, row)
      (touched first spec d) (one (none_or_touched spec d first c))
      ∙ accumulator_at spec.calls c (rows_of_group spec d c) row
    where
      same_either : (b : Bool) (x y : Accumulator) → x ≡ y → cond b x y ≡ y
      same_either true x y e = e
      same_either false x y e = refl

      one : (rows_of_group spec d c ≡ no_rows row_cmp) ⊎ (count row_cmp c (touched first spec d) ≡ 1) → (at (z_sets nat_cmp) (c, row) (accumulator_entries spec.calls c (rows_of_group spec d c)) ≡ no_rows nat_cmp)
          ⊎ (count row_cmp c (touched first spec d) ≡ 1)
      one (inl none) = inl (accumulator_at spec.calls c (rows_of_group spec d c) row ∙ same_either (has_no_values row) _ _ (ap (accumulated spec.calls) none ∙ accumulated-zero spec.calls))
      one (inr once) = inr once

  both_accumulators : (b : Bool) (x y z : Accumulator) → plus x y ≡ z → plus (cond b x (no_rows nat_cmp)) (cond b y (no_rows nat_cmp)) ≡ cond b z (no_rows nat_cmp)
  both_accumulators true x y z e = e
  both_accumulators false x y z e = accumulators_are_abelian.neutral (no_rows nat_cmp)

  pub accumulators_kept : (change : List (Entry Accumulator)) → IsRunOf (z_sets nat_cmp) first_number_outside (accumulators_of first spec d) change → KeepsAccumulators spec accs change s.old d
  accumulators_kept change run now after = record {
    held = λ c row.
        after.held (c, row)
        ∙ ap₂ plus (s.accumulators.held c row) (run.held (c, row) ∙ accumulators_at c row)
        ∙ both_accumulators (has_no_values row) (accumulated spec.calls (rows_of_group spec s.old c)) (accumulated spec.calls (rows_of_group spec d c)) (accumulated spec.calls (rows_of_group spec (plus s.old d) c))
        (sym (ap (accumulated spec.calls) (at_key-plus (group_of spec) c s.old d) ∙ (accumulated-IsAdditive spec.calls).of_plus (rows_of_group spec s.old c) (rows_of_group spec d c)));
  }

  -- ---- arguments
  pub arguments_apart : AreDistinct (arguments_of_calls first spec d)
  arguments_apart =
      distinct-flat front_of_key (λ c. argument_entries c 0 spec.calls (rows_of_group spec d c)) (λ c. argument_home c (rows_of_group spec d c) 0 spec.calls)
      (λ c. argument_distinct c (rows_of_group spec d c) 0 spec.calls) (touched first spec d) (touched_ascend spec d first)

  pub arguments_within : AllInRange number_outside (arguments_of_calls first spec d)
  arguments_within =
      within-flat number_outside (λ c. argument_entries c 0 spec.calls (rows_of_group spec d c))
      (λ c. argument_within c (rows_of_group spec d c) (λ column. few_arguments column (rows_of_group spec d c) (group_few spec c d (few spec accs ordered shown d first s))) 0 spec.calls)
      (touched first spec d)

  zero_front : (i : ℕ) → 0 + i ≡ i
  zero_front i = omega arith

  group_argument : (c row : Row) (i : ℕ) (call : Call) → slice_get spec.calls i ≡ Some call → has_ends call.func ≡ true
      → at integers (argument_key c i, row) (argument_entries c 0 spec.calls (rows_of_group spec d c)) ≡ weight row (arguments call.arg (rows_of_group spec d c))
  group_argument c row i call found ends =
      ap (λ k. at integers (argument_key c k, row) (argument_entries c 0 spec.calls (rows_of_group spec d c))) (sym (zero_front i))
      ∙ argument_at c (rows_of_group spec d c) row 0 i spec.calls call found ends

  arguments_at : (c row : Row) (i : ℕ) (call : Call) → slice_get spec.calls i ≡ Some call → has_ends call.func ≡ true → at integers (argument_key c i, row) (arguments_of_calls first spec d)
      ≡ weight row (arguments call.arg (rows_of_group spec d c))
  arguments_at c row i call found ends =
      at_one front_of_key (λ k. argument_entries k 0 spec.calls (rows_of_group spec d k)) (λ k. argument_home k (rows_of_group spec d k) 0 spec.calls) integers integers_are_abelian (argument_key c i, row)
      (touched first spec d)
      (subst (λ k. (at integers (argument_key c i, row) (argument_entries k 0 spec.calls (rows_of_group spec d k)) ≡ pos 0) ⊎ (count row_cmp k (touched first spec d) ≡ 1)) (sym home) (one (none_or_touched spec d first c)))
      ∙ ap (λ k. at integers (argument_key c i, row) (argument_entries k 0 spec.calls (rows_of_group spec d k))) home
      ∙ group_argument c row i call found ends
    where
      home : front_of_key (argument_key c i) ≡ c
      home = front_is c (Int (pos i))

      one : (rows_of_group spec d c ≡ no_rows row_cmp) ⊎ (count row_cmp c (touched first spec d) ≡ 1) → (at integers (argument_key c i, row) (argument_entries c 0 spec.calls (rows_of_group spec d c)) ≡ pos 0)
          ⊎ (count row_cmp c (touched first spec d) ≡ 1)
      one (inl none) = inl (group_argument c row i call found ends ∙ ap (λ z. weight row (arguments call.arg z)) none ∙ ap (weight row) (image-zero (argument_of call.arg)) ∙ weight-zero row)
      one (inr once) = inr once

  pub arguments_kept : (change : List (Entry ℤ)) → IsRunOf integers number_outside (arguments_of_calls first spec d) change → KeepsArguments spec ordered change s.old d
  arguments_kept change run now after = record {
    held = λ c row i call found ends.
        after.held (argument_key c i, row)
        ∙ ap₂ (λ m n. m +ℤ n) (s.arguments.held c row i call found ends) (run.held (argument_key c i, row) ∙ arguments_at c row i call found ends)
        ∙ sym (ap (weight row) ((group_arguments_add spec call.arg c).of_plus s.old d) ∙ weight-plus row (arguments_of_group spec call.arg c s.old) (arguments_of_group spec call.arg c d));
  }

  -- ---- shown rows
  pub moves_apart : AreDistinct (moves_of first spec s.old d)
  moves_apart =
      distinct-flat itself (λ c. shown_entries c (row_before first spec s.old c) (row_after spec s.old d c)) (λ c. shown_home c (row_before first spec s.old c) (row_after spec s.old d c))
      (λ c. shown_distinct c (row_before first spec s.old c) (row_after spec s.old d c)) (touched first spec d) (touched_ascend spec d first)

  pub moves_within : AllInRange number_outside (moves_of first spec s.old d)
  moves_within =
      within-flat number_outside (λ c. shown_entries c (row_before first spec s.old c) (row_after spec s.old d c))
      (λ c. shown_within c (row_before first spec s.old c) (row_after spec s.old d c)) (touched first spec d)

  pub moves_units : AllByRecursion (λ (e : Entry ℤ). unsigned_abs e.payload ≤ 1) (moves_of first spec s.old d)
  moves_units =
      each-flat (λ (e : Entry ℤ). unsigned_abs e.payload ≤ 1) (λ c. shown_entries c (row_before first spec s.old c) (row_after spec s.old d c))
      (λ c. shown_units c (row_before first spec s.old c) (row_after spec s.old d c)) (touched first spec d)

  -- a group without changed rows shows what it showed, but for the one that stands, at first
  same_shown : (f : Bool) → first ≡ f → (b : Bool) (c : Row) → spec.global && has_no_values c ≡ b → rows_of_group spec d c ≡ no_rows row_cmp → (row_before first spec s.old c ≡ row_after spec s.old d c)
      ⊎ (count row_cmp c (touched first spec d) ≡ 1)
  same_shown false e b c h none =
      inl (ap (λ f. row_before f spec s.old c) e ∙ ap (shown_row spec.global spec.calls c) (sym (unchanged spec accs ordered shown d first s c none)))
  same_shown true e true c h none =
      let stands = stands_here c spec.global h in
      inr (ap₂ (λ k cs. count row_cmp k cs) stands.1 (standing_touched spec d first e stands.0))
  same_shown true e false c h none =
      inl (ap (λ f. row_before f spec s.old c) e
      ∙ sym (ap (shown_row spec.global spec.calls c) (unchanged spec accs ordered shown d first s c none ∙ ap (λ y. rows_of_group spec y c) (s.begins e)
      ∙ at_key-zero row_cmp row_cmp-total row_cmp-antisymmetric row_cmp row_cmp-total row_cmp-antisymmetric (group_of spec) c)
      ∙ nothing_stands spec c h))

  moves_at : (c row : Row) → at integers (c, row) (moves_of first spec s.old d) ≡ weight row (minus (as_rows (row_after spec s.old d c)) (as_rows (row_before first spec s.old c)))
  moves_at c row =
      at_one itself (λ k. shown_entries k (row_before first spec s.old k) (row_after spec s.old d k)) (λ k. shown_home k (row_before first spec s.old k) (row_after spec s.old d k)) integers integers_are_abelian
      (c, row) (touched first spec d) (one (none_or_touched spec d first c))
      ∙ shown_at c (row_before first spec s.old c) (row_after spec s.old d c) row
    where
      one : (rows_of_group spec d c ≡ no_rows row_cmp) ⊎ (count row_cmp c (touched first spec d) ≡ 1)
          → (at integers (c, row) (shown_entries c (row_before first spec s.old c) (row_after spec s.old d c)) ≡ pos 0) ⊎ (count row_cmp c (touched first spec d) ≡ 1)
      one (inl none) = by_case (same_shown first refl (spec.global && has_no_values c) c refl none)
        where
          by_case : (row_before first spec s.old c ≡ row_after spec s.old d c) ⊎ (count row_cmp c (touched first spec d) ≡ 1)
              → (at integers (c, row) (shown_entries c (row_before first spec s.old c) (row_after spec s.old d c)) ≡ pos 0) ⊎ (count row_cmp c (touched first spec d) ≡ 1)
          by_case (inl same) = inl (ap (at integers (c, row)) (shown_none c (row_before first spec s.old c) (row_after spec s.old d c) same))
          by_case (inr once) = inr once
      one (inr once) = inr once

  pub moves_kept : (change : List (Entry ℤ)) → IsRunOf integers number_outside (moves_of first spec s.old d) change → KeepsShown first spec shown change s.old d
  moves_kept change run c holds now after = record {
    held = λ row.
        after.held (c, row)
        ∙ ap₂ (λ m n. m +ℤ n) (holds.held row)
        (run.held (c, row) ∙ moves_at c row ∙ ap (weight row) (rows_are_parts first spec s.old d c)
        ∙ weight-minus row (part_of spec.global spec.calls c (rows_of_group spec (plus s.old d) c)) (before first (part_of spec.global spec.calls c (rows_of_group spec s.old c))))
        ∙ back (weight row (before first (part_of spec.global spec.calls c (rows_of_group spec s.old c)))) (weight row (part_of spec.global spec.calls c (rows_of_group spec (plus s.old d) c)));
  }
