-- The rows of the entries of all groups add up to what the aggregate has more.
use Rattle.std.proofs.Common.{◌≡◌, List, [], ◌∷◌, ◌++◌, map, Bool, true, false, cond, not, ◌&&◌, ℤ, refl, sym, ap, ◌∙◌}
use Rattle.std.specs.List.{flat_map}
use Rattle.sq_value.specs.Order.{row_cmp}
use Rattle.sq_value.specs.OrderLaws.{row_cmp-antisymmetric, row_cmp-total}
use Rattle.sq_algebra.specs.Groups.{sum_over, z_sets}
use Rattle.sq_algebra.specs.Keyed.{keys_of}
use Rattle.sq_algebra.specs.ZSet.{entries, from_pairs, minus, of_list, plus, zero as no_rows}
use Rattle.sq_algebra.proofs.GroupLemmas.{minus-zero, neutral_right, sum_over_agree}
use Rattle.sq_algebra.proofs.KeyedLemmas.{at_key-zero}
use Rattle.sq_algebra.proofs.OperatorLemmas.{from_pairs-flat_map}
use Rattle.sq_ops.specs.Aggregates.{aggregated, group_of, group_row, part_of, rows_of_group}
use Rattle.sq_ops.specs.WholeLaws.{aggregates_add_up, part_is_nothing_for_none}
use Rattle.sq_ops.specs.Wholes.{has_no_values, standing_rows}
use Rattle.sq_ops.specs.declared.aggregate.AggSpec.{AggSpec}
use Rattle.sq_ops.proofs.Parting.{over_change, over_nothing}
use Rattle.sq_trace.specs.declared.entry.Entry.{Entry}
use Rattle.sq_zset.specs.GroupLaws.{rows_are_abelian}
use Rattle.sq_zset.proofs.Rows.{same_weights, weight-from_pairs}
use Rattle.sq_agg.specs.Aggregating.{AggState, aggregate_rise, before, touched}
use Rattle.sq_agg.specs.Entering.{as_pairs, moves_of, row_after, row_before, shown_entries}
use Rattle.sq_agg.specs.Kept.{KeptAccumulators, Row, Rows}
use Rattle.sq_agg.specs.Stepping.{KeptWeights}
use Rattle.sq_agg.proofs.Entered.{shown_weight}
use Rattle.sq_agg.proofs.Keeping.{rows_are_parts}
use Rattle.sq_agg.proofs.Touching.{standing_touched, touched_covers}

pairs-append : (es fs : List (Entry ℤ)) → as_pairs (es ++ fs) ≡ as_pairs es ++ as_pairs fs
pairs-append [] fs = refl
pairs-append (e ∷ es) fs = ap (λ ps. (e.row, e.payload) ∷ ps) (pairs-append es fs)

pairs-flat : (f : Row → List (Entry ℤ)) (cs : List Row) → as_pairs (flat_map f cs) ≡ flat_map (λ c. as_pairs (f c)) cs
pairs-flat f [] = refl
pairs-flat f (c ∷ cs) = pairs-append (f c) (flat_map f cs) ∙ ap (λ ps. as_pairs (f c) ++ ps) (pairs-flat f cs)

one_group : (c : Row) (spec : AggSpec) (first : Bool) (y d : Rows) → from_pairs row_cmp (as_pairs (shown_entries c (row_before first spec y c) (row_after spec y d c)))
    ≡ minus (part_of spec.global spec.calls c (rows_of_group spec (plus y d) c)) (before first (part_of spec.global spec.calls c (rows_of_group spec y c)))
one_group c spec first y d =
    same_weights _ _ (λ row. weight-from_pairs row (as_pairs (shown_entries c (row_before first spec y c) (row_after spec y d c))) ∙ shown_weight c (row_before first spec y c) (row_after spec y d c) row)
    ∙ rows_are_parts first spec y d c

module _ (spec : AggSpec) (y d : Rows) where
  abbrev rises : Bool → Row → Rows
  rises first c = minus (part_of spec.global spec.calls c (rows_of_group spec (plus y d) c)) (before first (part_of spec.global spec.calls c (rows_of_group spec y c)))

  changes : (first : Bool) → minus (aggregated spec (plus y d)) (aggregated spec y) ≡ sum_over (z_sets row_cmp) (rises false) (touched first spec d)
  changes first = over_change (part_of spec.global spec.calls) spec.global (group_of spec) (aggregated spec) (aggregates_add_up spec) (touched first spec d) y d (touched_covers spec d first)

  standing_part : spec.global ≡ true → part_of spec.global spec.calls [] (rows_of_group spec (plus y d) []) ≡ aggregated spec (plus y d)
  standing_part g =
      ap (λ b. of_list row_cmp (cond (has_no_values (entries (rows_of_group spec (plus y d) [])) && not (b && true)) [] (group_row spec.calls [] (rows_of_group spec (plus y d) []) ∷ []))) g
      ∙ elim (has_no_values (entries (rows_of_group spec (plus y d) []))) as
      (λ b. of_list row_cmp (cond (b && false) [] (group_row spec.calls [] (rows_of_group spec (plus y d) []) ∷ []))
      ≡ of_list row_cmp (group_row spec.calls [] (rows_of_group spec (plus y d) []) ∷ [])) [ true ↦ refl | false ↦ refl ]
      ∙ sym (ap (λ cs. of_list row_cmp (map (λ c. group_row spec.calls c (rows_of_group spec (plus y d) c)) cs)) (ap (λ b. cond b ([] ∷ []) (keys_of row_cmp (group_of spec) (plus y d))) g))

  nothing_before : spec.global ≡ false → y ≡ no_rows row_cmp → aggregated spec y ≡ no_rows row_cmp
  nothing_before g none =
      ap (aggregated spec) none
      ∙ over_nothing (part_of spec.global spec.calls) spec.global (group_of spec) (aggregated spec) (aggregates_add_up spec)
      ∙ ap (λ b. standing_rows (part_of spec.global spec.calls) b) g

  no_part : spec.global ≡ false → y ≡ no_rows row_cmp → (c : Row) → part_of spec.global spec.calls c (rows_of_group spec y c) ≡ no_rows row_cmp
  no_part g none c =
      ap (λ z. part_of spec.global spec.calls c (rows_of_group spec z c)) none
      ∙ ap (part_of spec.global spec.calls c) (at_key-zero row_cmp row_cmp-total row_cmp-antisymmetric row_cmp row_cmp-total row_cmp-antisymmetric (group_of spec) c)
      ∙ part_is_nothing_for_none spec.global spec.calls c (ap (λ b. b && has_no_values c) g)

  begun : (first : Bool) → first ≡ true → y ≡ no_rows row_cmp → (b : Bool) → spec.global ≡ b → sum_over (z_sets row_cmp) (rises true) (touched first spec d) ≡ aggregated spec (plus y d)
  begun first e none true g =
      ap (sum_over (z_sets row_cmp) (rises true)) (standing_touched spec d first e g)
      ∙ neutral_right (z_sets row_cmp) rows_are_abelian (rises true [])
      ∙ minus-zero (z_sets row_cmp) rows_are_abelian (part_of spec.global spec.calls [] (rows_of_group spec (plus y d) []))
      ∙ standing_part g
  begun first e none false g =
      sum_over_agree (z_sets row_cmp) (rises true) (rises false) (λ c. ap (minus (part_of spec.global spec.calls c (rows_of_group spec (plus y d) c))) (sym (no_part g none c))) (touched first spec d)
      ∙ sym (changes first) ∙ ap (minus (aggregated spec (plus y d))) (nothing_before g none)
      ∙ minus-zero (z_sets row_cmp) rows_are_abelian (aggregated spec (plus y d))

  by_first : (first f : Bool) → first ≡ f → (first ≡ true → y ≡ no_rows row_cmp) → sum_over (z_sets row_cmp) (rises f) (touched first spec d) ≡ aggregate_rise f spec y d
  by_first first false e begins = sym (changes first)
  by_first first true e begins = begun first e (begins e) spec.global refl ∙ sym (minus-zero (z_sets row_cmp) rows_are_abelian (aggregated spec (plus y d)))

module _ (spec : AggSpec) (accs : KeptAccumulators) (ordered shown : KeptWeights) (d : Rows) (first : Bool) (s : AggState spec accs ordered shown d first) where
  pub risen : from_pairs row_cmp (as_pairs (moves_of first spec s.old d)) ≡ aggregate_rise first spec s.old d
  risen =
      ap (from_pairs row_cmp) (pairs-flat (λ c. shown_entries c (row_before first spec s.old c) (row_after spec s.old d c)) (touched first spec d))
      ∙ from_pairs-flat_map row_cmp row_cmp-total row_cmp-antisymmetric (λ c. as_pairs (shown_entries c (row_before first spec s.old c) (row_after spec s.old d c))) (touched first spec d)
      ∙ sum_over_agree (z_sets row_cmp) (λ c. from_pairs row_cmp (as_pairs (shown_entries c (row_before first spec s.old c) (row_after spec s.old d c)))) (rises spec s.old d first)
      (λ c. one_group c spec first s.old d) (touched first spec d)
      ∙ by_first spec s.old d first first refl s.begins
