-- Joins, distinct and aggregates of the Z-sets of lists.
use Rattle.std.proofs.Common.{◌≡◌, ℕ, suc, ◌+◌, Option, Some, None, List, [], ◌∷◌, ◌++◌, map, Bool, true, false, cond, ◌&&◌, filter, ℤ, pos, int_eq, length, refl, sym, subst, ap, ap₂, ◌∙◌, ◌⊎◌, inl, inr, arith, Less, Equal, Greater, is_eq}
use Rattle.std.specs.Cmp.{Equal-is}
use Rattle.std.specs.List.{All, AllByRecursion, flat_map, fold}
use Rattle.std.proofs.lemmas.List.{map-append}
use Rattle.std.proofs.lemmas.List.Elements.{filter-append, recursion_from_All}
use Rattle.std.specs.Ordering.{match_ordering}
use Rattle.sq_value.specs.declared.value.Value.{Value}
use Rattle.sq_value.specs.declared.value.Value.TheVariants.{Null, Int}
use Rattle.sq_value.specs.Order.{row_cmp}
use Rattle.sq_value.specs.OrderLaws.{row_cmp-total, row_cmp-antisymmetric}
use Rattle.sq_algebra.specs.Groups.{integers, sum_over, z_sets}
use Rattle.sq_algebra.specs.Keyed.{at_key, groups_by, members_at, CoversOnce}
use Rattle.sq_algebra.specs.Listed.{count, in_order, place}
use Rattle.sq_algebra.specs.Operators.{pairs_where, where_same}
use Rattle.sq_algebra.specs.ZSet.{entries, of_list, total, weight}
use Rattle.sq_algebra.proofs.GroupLemmas.{sum_over_agree}
use Rattle.sq_algebra.proofs.GroupingLemmas.{at_key-of_list, of_list-groups_by}
use Rattle.sq_algebra.proofs.KeyedLemmas.{covers_from}
use Rattle.sq_algebra.proofs.Lists.{count-cons}
use Rattle.sq_algebra.proofs.OperatorLemmas.{of_list-flat_map}
use Rattle.sq_algebra.proofs.Weights.{weight-of_list}
use Rattle.sq_algebra.proofs.MemberLemmas.{entries-of_list}
use Rattle.sq_algebra.proofs.PairLemmas.{zero_from}
use borrow.Author.Differences.{ints}
use Rattle.sq_expr.specs.declared.expr.Func.{Func}
use Rattle.sq_expr.specs.declared.expr.Func.TheVariants.{CountAll, Count, Sum, Min, Max}
use Rattle.sq_expr.specs.Meaning.{column_of, columns_of}
use Rattle.sq_zset.proofs.RowOperators.{keep-of_list, lin-of_list, product-of_list}
use Rattle.sq_zset.proofs.RowKeys.{by_key_over}
use Rattle.sq_zset.proofs.Rows.{total-of_list}
use Rattle.sq_zset.specs.GroupLaws.{integers_are_abelian, rows_are_abelian}
use Rattle.sq_ops.specs.declared.aggregate.AggSpec.{AggSpec}
use Rattle.sq_ops.specs.declared.aggregate.Call.{Call}
use Rattle.sq_ops.specs.Aggregates.{aggregated, call_value, count_in, group_of, greater, group_row, has_value, lesser, number_at, part_of, values_in}
use Rattle.sq_ops.specs.declared.bilinear.Pairing.{Pairing}
use Rattle.sq_ops.specs.Joins.{chosen, joined, key_in}
use Rattle.sq_ops.specs.Lists.{all_pairs, group_of_list, is_joined, is_same_key, list_value, row_of_list, row_of_pair, rows_by_keys}
use Rattle.sq_ops.specs.Rows.{holds}
use Rattle.sq_ops.specs.WholeLaws.{grouped_by_key, one_of_all, part_is_nothing_for_none}
use Rattle.sq_ops.proofs.Extremes.{greatest_of_rows, least_of_rows}
use Rattle.sq_ops.specs.Wholes.{has_no_values}

pub nested_loops : (left right : List Value → Option (List Value)) (pair : List Value → List Value → Option (List Value)) (rows others : List (List Value)) → joined left right pair (of_list row_cmp rows) (of_list row_cmp others) ≡ of_list row_cmp (flat_map (λ row. flat_map (pairs_where row_cmp left right pair row) others) rows)
nested_loops left right pair rows others = product-of_list (pairs_where row_cmp left right pair) rows others

-- ---- the values of calls
counted : (column : ℕ) (rows : List (List Value)) → count_in column (of_list row_cmp rows) ≡ pos (length (filter (has_value column) rows))
counted column rows = ap total (keep-of_list (has_value column) rows) ∙ total-of_list (filter (has_value column) rows)

none_tested : (xs : List (List Value)) → int_eq (pos (length xs)) (pos 0) ≡ has_no_values xs
none_tested [] = refl
none_tested (x ∷ xs) = elim (int_eq (pos (suc (length xs))) (pos 0)) as (λ b. int_eq (pos (suc (length xs))) (pos 0) ≡ b → b ≡ false) [ true ↦ λ e. absurd (never (zero_from (pos (suc (length xs))) e)) | false ↦ λ e. refl ] refl
  where
    never : pos (suc (length xs)) ≡ pos 0 → ⊥
    never e = absurd (omega (arith, ints))

paired_values : (column : ℕ) (n : List Value → ℤ) (rows : List (List Value)) → map {A = List Value × ℤ} (λ e. column_of e.0 column) (map (λ row. (row, n row)) rows) ≡ map (λ row. column_of row column) rows
paired_values column n [] = refl
paired_values column n (row ∷ rows) = ap (λ xs. column_of row column ∷ xs) (paired_values column n rows)

values_of_list : (column : ℕ) (rows : List (List Value)) → values_in column (of_list row_cmp rows) ≡ map (λ row. column_of row column) (in_order row_cmp rows)
values_of_list column rows =
    ap (map (λ e. column_of e.0 column)) (entries-of_list row_cmp row_cmp-total row_cmp-antisymmetric rows)
    ∙ paired_values column (λ row. pos (count row_cmp row rows)) (in_order row_cmp rows)

pub value_of_list : (f : Func) (column : ℕ) (rows : List (List Value)) → call_value f column (of_list row_cmp rows) ≡ list_value f column rows
value_of_list CountAll column rows = ap Int (total-of_list rows)
value_of_list Count column rows = ap Int (counted column rows)
value_of_list Sum column rows =
    ap₂ (λ n s. cond (int_eq n (pos 0)) Null (Int s)) (counted column rows) (lin-of_list integers integers_are_abelian (number_at column) rows)
    ∙ ap (λ b. cond b Null (Int (sum_over integers (number_at column) rows))) (none_tested (filter (has_value column) rows))
value_of_list Min column rows = ap (fold lesser Null) (values_of_list column rows) ∙ least_of_rows (λ row. column_of row column) rows
value_of_list Max column rows = ap (fold greater Null) (values_of_list column rows) ∙ greatest_of_rows (λ row. column_of row column) rows

-- ---- groups
pub row_of_group_list : (calls : List Call) (c : List Value) (rows : List (List Value)) → group_row calls c (of_list row_cmp rows) ≡ row_of_list calls c rows
row_of_group_list calls c rows = ap (λ xs. c ++ xs) (each calls)
  where
    each : (calls : List Call) → map (λ call. call_value call.func call.arg (of_list row_cmp rows)) calls ≡ map (λ call. list_value call.func call.arg rows) calls
    each [] = refl
    each (call ∷ calls) = ap₂ (λ x xs. x ∷ xs) (value_of_list call.func call.arg rows) (each calls)

placed : (x : List Value) (xs : List (List Value)) → has_no_values (place row_cmp x xs) ≡ false
placed x [] = refl
placed x (y ∷ ys) = elim (row_cmp x y) as (λ r. has_no_values (match_ordering r (x ∷ y ∷ ys) (y ∷ ys) (y ∷ place row_cmp x ys)) ≡ false) [ Less ↦ refl | Equal ↦ refl | Greater ↦ refl ]

mapped_values : (n : List Value → ℤ) (xs : List (List Value)) → has_no_values (map {B = List Value × ℤ} (λ row. (row, n row)) xs) ≡ has_no_values xs
mapped_values n [] = refl
mapped_values n (x ∷ xs) = refl

ordered_values : (rows : List (List Value)) → has_no_values (in_order row_cmp rows) ≡ has_no_values rows
ordered_values [] = refl
ordered_values (row ∷ rows) = placed row (in_order row_cmp rows)

no_values_of_list : (rows : List (List Value)) → has_no_values (entries (of_list row_cmp rows)) ≡ has_no_values rows
no_values_of_list rows =
    ap has_no_values (entries-of_list row_cmp row_cmp-total row_cmp-antisymmetric rows)
    ∙ mapped_values (λ row. pos (count row_cmp row rows)) (in_order row_cmp rows) ∙ ordered_values rows

part_of_list : (calls : List Call) (c : List Value) (rows : List (List Value)) → of_list row_cmp (group_of_list calls c rows) ≡ part_of false calls c (of_list row_cmp rows)
part_of_list calls c rows =
    sym (ap (λ b. of_list row_cmp (cond (b && true) [] (group_row calls c (of_list row_cmp rows) ∷ []))) (no_values_of_list rows)
    ∙ ap (λ row. of_list row_cmp (cond (has_no_values rows && true) [] (row ∷ []))) (row_of_group_list calls c rows)
    ∙ ap (λ b. of_list row_cmp (cond b [] (row_of_list calls c rows ∷ []))) (elim (has_no_values rows) as (λ b. b && true ≡ b) [ true ↦ refl | false ↦ refl ]))

pub groups_of_list : (spec : AggSpec) (rows : List (List Value)) → spec.global ≡ false → aggregated spec (of_list row_cmp rows) ≡ of_list row_cmp (groups_by row_cmp (group_of spec) (group_of_list spec.calls) rows)
groups_of_list spec rows e =
    grouped_by_key spec (of_list row_cmp rows) e
    ∙ sym (of_list-groups_by row_cmp row_cmp-total row_cmp-antisymmetric row_cmp row_cmp-total row_cmp-antisymmetric (group_of spec) row_cmp row_cmp-total row_cmp-antisymmetric (group_of_list spec.calls) (part_of false spec.calls) (part_of_list spec.calls) (λ c. refl) rows)

pub all_of_list : (spec : AggSpec) (rows : List (List Value)) → spec.global ≡ true → aggregated spec (of_list row_cmp rows) ≡ of_list row_cmp (row_of_list spec.calls [] rows ∷ [])
all_of_list spec rows e = one_of_all spec (of_list row_cmp rows) e ∙ ap (λ row. of_list row_cmp (row ∷ [])) (row_of_group_list spec.calls [] rows)

-- ---- groups in any order
none_or_all : (P : List Value → Type 0) (k : List Value) (rows : List (List Value)) → AllByRecursion P rows → (◌≡◌ {A = ℤ} (pos (count row_cmp k rows)) (pos 0)) ⊎ P k
none_or_all P k [] h = inl refl
none_or_all P k (row ∷ rows) h =
    elim (is_eq (row_cmp k row)) as (λ b. is_eq (row_cmp k row) ≡ b → (◌≡◌ {A = ℤ} (pos (count row_cmp k (row ∷ rows))) (pos 0)) ⊎ P k) [
      | true ↦ λ e. inr (subst P (sym (row_cmp-antisymmetric k row ((Equal-is (row_cmp k row)).0 e))) h.0)
      | false ↦ λ e. later (none_or_all P k rows h.1) (ap pos (let whole = count-cons row_cmp k row rows ∙ ap (λ b. cond b 1 0 + count row_cmp k rows) e in omega arith))
    ] refl
  where
    later : (◌≡◌ {A = ℤ} (pos (count row_cmp k rows)) (pos 0)) ⊎ P k → ◌≡◌ {A = ℤ} (pos (count row_cmp k (row ∷ rows))) (pos (count row_cmp k rows)) → (◌≡◌ {A = ℤ} (pos (count row_cmp k (row ∷ rows))) (pos 0)) ⊎ P k
    later (inl none) e = inl (e ∙ none)
    later (inr once) e = inr once

module _ (key : List Value → List Value) (cs rows : List (List Value)) (each : All (λ row. count row_cmp (key row) cs ≡ 1) rows) where
  covers_list : CoversOnce row_cmp key cs (of_list row_cmp rows)
  covers_list = covers_from row_cmp row_cmp-total row_cmp-antisymmetric row_cmp row_cmp-total row_cmp-antisymmetric key cs (of_list row_cmp rows) (λ k.
      step k (none_or_all (λ row. count row_cmp (key row) cs ≡ 1) k rows (recursion_from_All (λ row. count row_cmp (key row) cs ≡ 1) rows each)))
    where
      step : (k : List Value) → (◌≡◌ {A = ℤ} (pos (count row_cmp k rows)) (pos 0)) ⊎ (count row_cmp (key k) cs ≡ 1) → (weight k (of_list row_cmp rows) ≡ pos 0) ⊎ (count row_cmp (key k) cs ≡ 1)
      step k (inl none) = inl (weight-of_list row_cmp row_cmp-total k rows ∙ none)
      step k (inr once) = inr once

pub groups_in_any_order : (spec : AggSpec) (cs rows : List (List Value)) → spec.global ≡ false → All (λ row. count row_cmp (group_of spec row) cs ≡ 1) rows → aggregated spec (of_list row_cmp rows) ≡ of_list row_cmp (rows_by_keys spec cs rows)
groups_in_any_order spec cs rows e each =
    grouped_by_key spec (of_list row_cmp rows) e
    ∙ by_key_over (group_of spec) (z_sets row_cmp) rows_are_abelian (part_of false spec.calls) (λ c. part_is_nothing_for_none false spec.calls c refl) cs (of_list row_cmp rows) (covers_list (group_of spec) cs rows each)
    ∙ sym (of_list-flat_map row_cmp row_cmp-total row_cmp-antisymmetric (λ c. group_of_list spec.calls c (members_at row_cmp (group_of spec) c rows)) cs
    ∙ sum_over_agree (z_sets row_cmp) (λ c. of_list row_cmp (group_of_list spec.calls c (members_at row_cmp (group_of spec) c rows))) (λ c. part_of false spec.calls c (at_key row_cmp (group_of spec) c (of_list row_cmp rows)))
    (λ c. part_of_list spec.calls c (members_at row_cmp (group_of spec) c rows) ∙ ap (part_of false spec.calls c) (sym (at_key-of_list row_cmp row_cmp-total row_cmp-antisymmetric row_cmp row_cmp-total row_cmp-antisymmetric (group_of spec) c rows))) cs)

-- ---- joins as pairs that pass a test
pub one_pair : (k l : Option (List Value)) (t : Bool) (row : List Value) → where_same row_cmp k l (cond t (Some row) None) ≡ cond (is_same_key k l && t) (row ∷ []) []
one_pair None l t row = refl
one_pair (Some c) None t row = refl
one_pair (Some c) (Some d) true row = elim (is_eq (row_cmp c d)) as (λ b. cond b (row ∷ []) [] ≡ cond (b && true) (row ∷ []) []) [ true ↦ refl | false ↦ refl ]
one_pair (Some c) (Some d) false row = elim (is_eq (row_cmp c d)) as (λ b. ◌≡◌ {A = List (List Value)} [] (cond (b && false) (row ∷ []) [])) [ true ↦ refl | false ↦ refl ]

module _ (p : List Value × List Value → Bool) (g : List Value × List Value → List Value) (f : List Value → List Value → List (List Value)) (is : (row other : List Value) → f row other ≡ cond (p (row, other)) (g (row, other) ∷ []) []) where
  tested_row : (row : List Value) (others : List (List Value)) → flat_map (f row) others ≡ map g (filter p (map (λ other. (row, other)) others))
  tested_row row [] = refl
  tested_row row (other ∷ others) =
      ap₂ (λ xs ys. xs ++ ys) (is row other) (tested_row row others)
      ∙ elim (p (row, other)) as (λ b. cond b (g (row, other) ∷ []) [] ++ map g (filter p (map (λ o. (row, o)) others)) ≡ map g (cond b ((row, other) ∷ filter p (map (λ o. (row, o)) others)) (filter p (map (λ o. (row, o)) others)))) [ true ↦ refl | false ↦ refl ]

  tested_rows : (rows others : List (List Value)) → flat_map (λ row. flat_map (f row) others) rows ≡ map g (filter p (all_pairs rows others))
  tested_rows [] others = refl
  tested_rows (row ∷ rows) others =
      ap₂ (λ xs ys. xs ++ ys) (tested_row row others) (tested_rows rows others)
      ∙ sym (ap (map g) (filter-append p (map (λ other. (row, other)) others) (all_pairs rows others))
      ∙ map-append g (filter p (map (λ other. (row, other)) others)) (filter p (all_pairs rows others)))

pub pairs_that_match : (op : Pairing) (rows others : List (List Value)) → joined (key_in op.left op.nulls_match) (key_in op.right op.nulls_match) (chosen op.keep op.items) (of_list row_cmp rows) (of_list row_cmp others) ≡ of_list row_cmp (map (row_of_pair op) (filter (is_joined op) (all_pairs rows others)))
pairs_that_match op rows others =
    nested_loops (key_in op.left op.nulls_match) (key_in op.right op.nulls_match) (chosen op.keep op.items) rows others
    ∙ ap (of_list row_cmp) (tested_rows (is_joined op) (row_of_pair op) (pairs_where row_cmp (key_in op.left op.nulls_match) (key_in op.right op.nulls_match) (chosen op.keep op.items))
    (λ row other. one_pair (key_in op.left op.nulls_match row) (key_in op.right op.nulls_match other) (holds op.keep (row ++ other)) (columns_of op.items (row ++ other))) rows others)
