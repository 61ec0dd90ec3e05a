-- Joins and aggregates of lists of rows, each row as often as it stands there.
--     values_of column rows         the values in a column that are not NULL
--     list_value f column rows      the value of a call over the rows of a group
--     row_of_list calls c rows      the row of the group with the key c.     group_of_list calls c rows     the same as a list, empty for no rows
--     rows_of_groups spec rows      the rows of all groups, in the order of their first appearance
--     rows_by_keys spec cs rows     the rows of the groups with the keys cs, in the order of cs
--     NamesEachOnce spec cs rows    the key of each row stands once in the list cs
--     sums_of_list calls rows       each SUM over the rows of a group.     sums_of_groups spec rows     those of all groups
--     all_pairs rows others         each row with each other one, in the order of nested loops
--     is_joined op pair, row_of_pair op pair     whether a join gives a row for a pair, and which
--     joined_pairs op rows others   the Z-set of the rows that a join gives for all pairs
--     joined_lists left right pair rows others     the join of the Z-sets of two lists
--     joined_in_loops left right pair rows others     what nested loops over two lists give for rows with the same key
use Rattle.std.specs.Prelude.{◌≡◌, ℕ, Bool, false, not, ◌&&◌, if◌then◌else◌, List, [], ◌∷◌, ◌++◌, map, length, ℤ, pos, Option, Some, None}
use Rattle.std.specs.List.{All, filter, flat_map}
use Rattle.std.specs.Ordering.{is_eq}
use Rattle.sq_value.specs.declared.value.Value.{Value}
use Rattle.sq_value.specs.declared.value.Value.TheVariants.{Null, Int}
use Rattle.sq_value.specs.Order.{row_cmp}
use Rattle.sq_algebra.specs.Groups.{integers, sum_over}
use Rattle.sq_algebra.specs.Keyed.{groups_by, members_at}
use Rattle.sq_algebra.specs.Listed.{count, first_of_each}
use Rattle.sq_algebra.specs.Operators.{pairs_where}
use Rattle.sq_algebra.specs.ZSet.{ZSet, of_list}
use Rattle.sq_zset.specs.Loops.{nested_loops}
use Rattle.sq_expr.specs.declared.expr.Func.{Func}
use Rattle.sq_expr.specs.declared.expr.Func.TheVariants.{CountAll, Count, Sum, Min, Max}
use Rattle.sq_expr.specs.Extremes.{greatest_or_null, least_or_null}
use Rattle.sq_expr.specs.Meaning.{column_of, is_null, columns_of}
use Rattle.sq_ops.specs.declared.aggregate.AggSpec.{AggSpec}
use Rattle.sq_ops.specs.declared.aggregate.Call.{Call}
use Rattle.sq_ops.specs.declared.bilinear.Pairing.{Pairing}
use Rattle.sq_ops.specs.Aggregates.{group_of, has_value, number_at}
use Rattle.sq_ops.specs.Joins.{joined, key_in}
use Rattle.sq_ops.specs.Rows.{Row, holds}
use Rattle.sq_ops.specs.Wholes.{has_no_values}

-- ---- aggregates

abbrev pub values_of : ℕ → List (List Value) → List Value
values_of column rows = filter (λ x. not (is_null x)) (map (λ row. column_of row column) rows)

abbrev pub list_value : Func → ℕ → List (List Value) → Value
list_value CountAll column rows = Int (pos (length rows))
list_value Count column rows = Int (pos (length (filter (has_value column) rows)))
list_value Sum column rows = if has_no_values (filter (has_value column) rows) then Null else Int (sum_over integers (number_at column) rows)
list_value Min column rows = least_or_null (values_of column rows)
list_value Max column rows = greatest_or_null (values_of column rows)

abbrev pub row_of_list : List Call → List Value → List (List Value) → List Value
row_of_list calls c rows = c ++ map (λ call. list_value call.func call.arg rows) calls

abbrev pub group_of_list : List Call → List Value → List (List Value) → List (List Value)
group_of_list calls c rows = if has_no_values rows then [] else row_of_list calls c rows ∷ []

abbrev pub rows_of_groups : AggSpec → List Row → List Row
rows_of_groups spec rows = groups_by row_cmp (group_of spec) (group_of_list spec.calls) rows

abbrev pub NamesEachOnce : AggSpec → List Row → List Row → Type 0
NamesEachOnce spec cs rows = All (λ row. count row_cmp (group_of spec row) cs ≡ 1) rows

abbrev pub rows_by_keys : AggSpec → List (List Value) → List (List Value) → List (List Value)
rows_by_keys spec cs rows = flat_map (λ c. group_of_list spec.calls c (members_at row_cmp (group_of spec) c rows)) cs

-- the keys of the groups, in the order of their first appearance: in a global aggregate the one without values
abbrev pub keys_of_list : AggSpec → List Row → List Row
keys_of_list spec rows = if spec.global then [] ∷ [] else first_of_each row_cmp (map (group_of spec) rows)

abbrev pub list_sum : Func → ℕ → List Row → List ℤ
list_sum CountAll column rows = []
list_sum Count column rows = []
list_sum Sum column rows = sum_over integers (number_at column) rows ∷ []
list_sum Min column rows = []
list_sum Max column rows = []

abbrev pub sums_of_list : List Call → List Row → List ℤ
sums_of_list calls rows = flat_map (λ call. list_sum call.func call.arg rows) calls

abbrev pub sums_of_groups : AggSpec → List Row → List ℤ
sums_of_groups spec rows = flat_map (λ c. sums_of_list spec.calls (members_at row_cmp (group_of spec) c rows)) (keys_of_list spec rows)

-- ---- joins

abbrev pub all_pairs : List (List Value) → List (List Value) → List (List Value × List Value)
all_pairs rows others = flat_map (λ row. map (λ other. (row, other)) others) rows

-- whether two keys are there and the same
abbrev pub is_same_key : Option (List Value) → Option (List Value) → Bool
is_same_key None other = false
is_same_key (Some c) None = false
is_same_key (Some c) (Some d) = is_eq (row_cmp c d)

abbrev pub is_joined : Pairing → List Value × List Value → Bool
is_joined op pair = is_same_key (key_in op.left op.nulls_match pair.0) (key_in op.right op.nulls_match pair.1) && holds op.keep (pair.0 ++ pair.1)

abbrev pub row_of_pair : Pairing → List Value × List Value → List Value
row_of_pair op pair = columns_of op.items (pair.0 ++ pair.1)

abbrev pub joined_pairs : Pairing → List Row → List Row → ZSet Row row_cmp
joined_pairs op rows others = of_list row_cmp (map (row_of_pair op) (filter (is_joined op) (all_pairs rows others)))

module _ (left right : Row → Option Row) (pair : Row → Row → Option Row) where
  abbrev pub joined_lists : List Row → List Row → ZSet Row row_cmp
  joined_lists rows others = joined left right pair (of_list row_cmp rows) (of_list row_cmp others)

  abbrev pub joined_in_loops : List Row → List Row → List Row
  joined_in_loops rows others = nested_loops (pairs_where row_cmp left right pair) rows others
