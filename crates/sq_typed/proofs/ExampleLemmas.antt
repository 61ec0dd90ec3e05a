-- The examples computed.
use Rattle.std.proofs.Common.{refl}
use Rattle.sq_expr.proofs.Equations.{nums, truths, members-Compare, members-Null, members-All, cond_columns-Compare, cond_columns-Null, columns-Column, columns-Number, columns-Product}
use Rattle.sq_typed.specs.Views.{views, verdict}
use Rattle.sq_typed.specs.Examples as e
use Rattle.sq_typed.specs.declared.query.Block.{out-roll-Block}
use Rattle.sq_typed.proofs.Equations.{answers}

pub ruleset wheres = (members-Compare, members-Null, members-All, cond_columns-Compare, cond_columns-Null, columns-Column, columns-Number, columns-Product)

pub a_global_aggregate_has_a_row : e.a_global_aggregate_has_a_row
unfolding views
a_global_aggregate_has_a_row = simp (answers, out-roll-Block, nums) refl

pub a_global_aggregate_counts : e.a_global_aggregate_counts
unfolding views
a_global_aggregate_counts = simp (answers, out-roll-Block, nums) refl

pub a_great_sum_is_shown : e.a_great_sum_is_shown
unfolding views verdict
a_great_sum_is_shown = simp (answers, out-roll-Block, nums) refl

pub a_greater_sum_is_refused : e.a_greater_sum_is_refused
unfolding views verdict
a_greater_sum_is_refused = simp (answers, out-roll-Block, nums) refl

pub union_all_keeps_repeats : e.union_all_keeps_repeats
unfolding views
union_all_keeps_repeats = simp (answers, out-roll-Block, nums) refl

pub union_keeps_none : e.union_keeps_none
unfolding views
union_keeps_none = simp (answers, out-roll-Block, nums) refl

pub nulls_do_not_join : e.nulls_do_not_join
unfolding views
nulls_do_not_join = simp (answers, out-roll-Block, nums, truths) refl

pub nulls_are_one_group : e.nulls_are_one_group
unfolding views
nulls_are_one_group = simp (answers, out-roll-Block, nums, truths) refl

pub nulls_are_one_distinct_row : e.nulls_are_one_distinct_row
unfolding views
nulls_are_one_distinct_row = simp (answers, out-roll-Block, nums, truths) refl

pub nulls_are_common : e.nulls_are_common
unfolding views
nulls_are_common = simp (answers, out-roll-Block, nums, truths) refl

pub nulls_are_taken_away : e.nulls_are_taken_away
unfolding views
nulls_are_taken_away = simp (answers, out-roll-Block, nums, truths) refl

pub a_join_needs_both : e.a_join_needs_both
unfolding views
a_join_needs_both = simp (answers, out-roll-Block, nums) refl

pub a_join_pairs : e.a_join_pairs
unfolding views
a_join_pairs = simp (answers, out-roll-Block, nums, truths) refl

pub a_table_joins_itself : e.a_table_joins_itself
unfolding views
a_table_joins_itself = simp (answers, out-roll-Block, nums, truths) refl

pub a_table_joins_itself_later : e.a_table_joins_itself_later
unfolding views
a_table_joins_itself_later = simp (answers, out-roll-Block, nums, truths) refl

pub a_left_row_is_padded : e.a_left_row_is_padded
unfolding views
a_left_row_is_padded = simp (answers, out-roll-Block, nums) refl

pub a_left_row_with_a_match_is_not : e.a_left_row_with_a_match_is_not
unfolding views
a_left_row_with_a_match_is_not = simp (answers, out-roll-Block, nums, truths) refl

pub groups_have_a_least_and_a_greatest : e.groups_have_a_least_and_a_greatest
unfolding views
groups_have_a_least_and_a_greatest = simp (answers, out-roll-Block, nums) refl

pub no_row_is_no_group : e.no_row_is_no_group
unfolding views
no_row_is_no_group = simp (answers, out-roll-Block, nums) refl

pub where_joins : e.where_joins
unfolding views
where_joins = simp (answers, out-roll-Block, nums, truths, wheres) refl

pub where_drops_padded_rows : e.where_drops_padded_rows
unfolding views
where_drops_padded_rows = simp (answers, out-roll-Block, nums, truths, wheres) refl

pub on_keeps_padded_rows : e.on_keeps_padded_rows
unfolding views
on_keeps_padded_rows = simp (answers, out-roll-Block, nums, truths) refl

pub the_shop_has_revenue : e.the_shop_has_revenue
unfolding views
the_shop_has_revenue = simp (answers, out-roll-Block, nums, truths) refl

pub the_shop_has_large_customers : e.the_shop_has_large_customers
unfolding views
the_shop_has_large_customers = simp (answers, out-roll-Block, nums, truths, wheres) refl

pub the_shop_has_idle_customers : e.the_shop_has_idle_customers
unfolding views
the_shop_has_idle_customers = simp (answers, out-roll-Block, nums, truths, wheres) refl

pub no_sum_is_null : e.no_sum_is_null
unfolding views
no_sum_is_null = simp (answers, out-roll-Block, nums) refl

pub an_item_is_refused : e.an_item_is_refused
unfolding views verdict
an_item_is_refused = simp (answers, out-roll-Block, nums) refl

pub a_condition_is_not : e.a_condition_is_not
unfolding views verdict
a_condition_is_not = simp (answers, out-roll-Block, nums, truths, wheres) refl

pub a_condition_is_exact : e.a_condition_is_exact
unfolding views
a_condition_is_exact = simp (answers, out-roll-Block, nums, truths, wheres) refl

pub a_chain_goes_from_the_left : e.a_chain_goes_from_the_left
unfolding views
a_chain_goes_from_the_left = simp (answers, out-roll-Block, nums) refl

pub views_are_paired : e.views_are_paired
unfolding views
views_are_paired = simp (answers, out-roll-Block, nums, truths, wheres) refl

pub the_greatest_is_taken_away : e.the_greatest_is_taken_away
unfolding views
the_greatest_is_taken_away = simp (answers, out-roll-Block, nums) refl

pub having_drops_a_group : e.having_drops_a_group
unfolding views
having_drops_a_group = simp (answers, out-roll-Block, nums, truths, wheres) refl

pub its_sum_is_refused_all_the_same : e.its_sum_is_refused_all_the_same
unfolding views verdict
its_sum_is_refused_all_the_same = simp (answers, out-roll-Block, nums) refl

pub updates_are_made_in_order : e.updates_are_made_in_order
updates_are_made_in_order = refl

pub an_insert_is_taken_back : e.an_insert_is_taken_back
an_insert_is_taken_back = refl

pub a_delete_finds_no_row : e.a_delete_finds_no_row
a_delete_finds_no_row = refl

pub a_second_delete_finds_no_row : e.a_second_delete_finds_no_row
a_second_delete_finds_no_row = refl

pub ruleset examples = (a_global_aggregate_has_a_row, a_global_aggregate_counts, a_great_sum_is_shown, a_greater_sum_is_refused, union_all_keeps_repeats, union_keeps_none, nulls_do_not_join, nulls_are_one_group, nulls_are_one_distinct_row, nulls_are_common, nulls_are_taken_away, a_join_needs_both, a_join_pairs, a_table_joins_itself, a_table_joins_itself_later, a_left_row_is_padded, a_left_row_with_a_match_is_not, groups_have_a_least_and_a_greatest, no_row_is_no_group, where_joins, where_drops_padded_rows, on_keeps_padded_rows, the_shop_has_revenue, the_shop_has_large_customers, the_shop_has_idle_customers, no_sum_is_null, an_item_is_refused, a_condition_is_not, a_condition_is_exact, a_chain_goes_from_the_left, views_are_paired, the_greatest_is_taken_away, having_drops_a_group, its_sum_is_refused_all_the_same, updates_are_made_in_order, an_insert_is_taken_back, a_delete_finds_no_row, a_second_delete_finds_no_row)
