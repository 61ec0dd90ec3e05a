-- Small programs whose queries are written out by hand, and what their views give over some tables.
use Rattle.std.specs.Prelude.{◌≡◌, ℕ, zero, suc, pos, Bool, true, false, List, [], ◌∷◌, codes, Option, Some, None}
use Rattle.sq_value.specs.declared.value.Value.{Value}
use Rattle.sq_value.specs.declared.value.Value.TheVariants.{Null, Int, Text}
use Rattle.sq_ast.specs.declared.query.SetOp.{SetOp}
use Rattle.sq_ast.specs.declared.query.SetOp.TheVariants.{UnionAll, Union, Except}
use Rattle.sq_catalog.specs.declared.relation.Relation.{Relation}
use Rattle.sq_catalog.specs.declared.relation.Column.{Column}
use Rattle.sq_catalog.specs.declared.relation.RelationKind.TheVariants.{Table, View}
use Rattle.sq_expr.specs.declared.expr.Kind.TheVariants.{Integer}
use Rattle.sq_expr.specs.declared.expr.Expr.{Expr}
use Rattle.sq_expr.specs.declared.expr.Expr.TheVariants as expr
use Rattle.sq_expr.specs.declared.expr.Func.{Func}
use Rattle.sq_expr.specs.declared.expr.Func.TheVariants.{CountAll, Sum, Min, Max}
use Rattle.sq_expr.specs.declared.cond.Cond.{Cond}
use Rattle.sq_expr.specs.declared.cond.Cond.TheVariants as cond
use Rattle.sq_expr.specs.declared.cond.Cmp.TheVariants.{Eq, Lt, Gt, Ge}
use Rattle.sq_typed.specs.declared.query.Query.{Query}
use Rattle.sq_typed.specs.declared.query.Query.TheVariants as query
use Rattle.sq_typed.specs.declared.query.Block.{roll-Block}
use Rattle.sq_typed.specs.declared.query.BlockCall.{BlockCall}
use Rattle.sq_typed.specs.declared.query.FromItem.{FromItem, roll-FromItem}
use Rattle.sq_typed.specs.declared.query.FromJoin.{FromJoin}
use Rattle.sq_typed.specs.declared.query.FromJoin.TheVariants.{Comma, Inner, Left}
use Rattle.sq_typed.specs.declared.query.Grouping.{Grouping}
use Rattle.sq_typed.specs.declared.query.Origin.TheVariants as origin
use Rattle.sq_typed.specs.declared.query.SetStep.{roll-SetStep}
use Rattle.std.specs.declared.result.Result.TheVariants.{Ok, Err}
use Rattle.sq_typed.specs.declared.update.Update.{Update}
use Rattle.sq_typed.specs.From.{Row}
use Rattle.sq_typed.specs.Tables.{Tables, after}
use Rattle.sq_typed.specs.Views.{Meant, view_rows, verdict}

-- ---- how the programs are written out

-- a relation with so many columns, which have no names here
abbrev pub columns : ℕ → List Column
columns zero = []
columns (suc n) = record { name = []; kind = Integer; nullable = true } ∷ columns n

abbrev pub table : ℕ → Relation
table width = record { name = []; kind = Table; columns = columns width }

abbrev pub view : ℕ → Relation
view width = record { name = []; kind = View true; columns = columns width }

-- a view that is not printed
abbrev pub local_view : ℕ → Relation
local_view width = record { name = []; kind = View false; columns = columns width }

abbrev pub source : FromJoin → ℕ → FromItem
source join n = roll-FromItem (record { join = join; source = origin.Relation n })

abbrev pub block : Bool → List FromItem → Option Cond → Option Grouping → List Expr → Query
block distinct sources where_ grouping items = query.Block (roll-Block (record { distinct = distinct; sources = sources; filter = where_; grouping = grouping; items = items }))

-- SELECT items FROM sources
abbrev pub select : List FromItem → List Expr → Query
select sources items = block false sources None None items

abbrev pub grouped : List ℕ → List BlockCall → Option Cond → Option Grouping
grouped keys calls having = Some (record { columns = keys; calls = calls; having = having })

abbrev pub call : Func → ℕ → BlockCall
call func column = record { func = func; arg = Some (expr.Column column) }

abbrev pub count_all : BlockCall
count_all = record { func = CountAll; arg = None }

abbrev pub chain : SetOp → Query → Query → Query
chain op first second = query.Chain first (roll-SetStep (record { op = op; query = second }) ∷ [])

abbrev pub equal : ℕ → ℕ → Cond
equal a b = cond.Compare Eq (expr.Column a) (expr.Column b)

abbrev pub c0 : Expr
c0 = expr.Column 0

abbrev pub int : ℕ → Value
int n = Int (pos n)

abbrev pub row1 : ℕ → Row
row1 a = int a ∷ []

abbrev pub row2 : ℕ → ℕ → Row
row2 a b = int a ∷ int b ∷ []

-- ---- one table t (a)

-- SELECT COUNT(*), SUM(a) FROM t
abbrev pub count_and_sum : Meant
count_and_sum = record {
  catalog = table 1 ∷ view 2 ∷ [];
  queries = block false (source Comma 0 ∷ []) None (grouped [] (count_all ∷ call Sum 0 ∷ []) None) (expr.Column 0 ∷ expr.Column 1 ∷ []) ∷ [];
}

-- over no rows there is a row all the same
abbrev pub a_global_aggregate_has_a_row : Type 0
a_global_aggregate_has_a_row = view_rows count_and_sum ([] ∷ []) 0 ≡ (int 0 ∷ Null ∷ []) ∷ []

abbrev pub a_global_aggregate_counts : Type 0
a_global_aggregate_counts = view_rows count_and_sum ((row1 5 ∷ row1 2 ∷ (Null ∷ []) ∷ []) ∷ []) 0 ≡ row2 3 7 ∷ []

-- SELECT SUM(a) FROM t
abbrev pub sum_of_all : Meant
sum_of_all = record { catalog = table 1 ∷ view 1 ∷ []; queries = block false (source Comma 0 ∷ []) None (grouped [] (call Sum 0 ∷ []) None) (c0 ∷ []) ∷ [] }

abbrev pub a_great_sum_is_shown : Type 0
a_great_sum_is_shown = verdict sum_of_all ((row1 9223372036854775807 ∷ []) ∷ []) ≡ None

abbrev pub a_greater_sum_is_refused : Type 0
a_greater_sum_is_refused = verdict sum_of_all ((row1 9223372036854775807 ∷ row1 1 ∷ []) ∷ []) ≡ Some 0

abbrev pub no_sum_is_null : Type 0
no_sum_is_null = view_rows sum_of_all ([] ∷ []) 0 ≡ (Null ∷ []) ∷ []

-- SELECT a * a FROM t, and SELECT a FROM t WHERE a * a > 9223372036854775807
abbrev pub square : Expr
square = expr.Product (c0 ∷ c0 ∷ [])

abbrev pub squares : Meant
squares = record { catalog = table 1 ∷ view 1 ∷ []; queries = select (source Comma 0 ∷ []) (square ∷ []) ∷ [] }

abbrev pub great_squares : Meant
great_squares = record {
  catalog = table 1 ∷ view 1 ∷ [];
  queries = block false (source Comma 0 ∷ []) (Some (cond.Compare Gt square (expr.Number 9223372036854775807))) None (c0 ∷ []) ∷ [];
}

abbrev pub an_item_is_refused : Type 0
an_item_is_refused = verdict squares ((row1 3037000500 ∷ []) ∷ []) ≡ Some 0

abbrev pub a_condition_is_not : Type 0
a_condition_is_not = verdict great_squares ((row1 3037000500 ∷ []) ∷ []) ≡ None

abbrev pub a_condition_is_exact : Type 0
a_condition_is_exact = view_rows great_squares ((row1 3037000499 ∷ row1 3037000500 ∷ []) ∷ []) 0 ≡ row1 3037000500 ∷ []

-- ---- two tables t (a), u (a)

abbrev pub all_of : ℕ → Query
all_of n = select (source Comma n ∷ []) (c0 ∷ [])

-- UNION ALL, and UNION
abbrev pub unions : Meant
unions = record { catalog = table 1 ∷ table 1 ∷ view 1 ∷ view 1 ∷ []; queries = chain UnionAll (all_of 0) (all_of 1) ∷ chain Union (all_of 0) (all_of 1) ∷ [] }

abbrev pub union_all_keeps_repeats : Type 0
union_all_keeps_repeats = view_rows unions ((row1 1 ∷ row1 1 ∷ []) ∷ (row1 2 ∷ row1 1 ∷ []) ∷ []) 0 ≡ row1 1 ∷ row1 1 ∷ row1 2 ∷ row1 1 ∷ []

abbrev pub union_keeps_none : Type 0
union_keeps_none = view_rows unions ((row1 1 ∷ row1 1 ∷ []) ∷ (row1 2 ∷ row1 1 ∷ []) ∷ []) 1 ≡ row1 1 ∷ row1 2 ∷ []

-- the view t UNION u EXCEPT w over a third table, not printed: a chain goes from the left
abbrev pub three_in_a_chain : Meant
three_in_a_chain = record {
  catalog = table 1 ∷ table 1 ∷ table 1 ∷ local_view 1 ∷ [];
  queries = query.Chain (all_of 0) (roll-SetStep (record { op = Union; query = all_of 1 }) ∷ roll-SetStep (record { op = Except; query = all_of 2 }) ∷ []) ∷ [];
}

abbrev pub a_chain_goes_from_the_left : Type 0
a_chain_goes_from_the_left = view_rows three_in_a_chain ((row1 1 ∷ []) ∷ (row1 2 ∷ []) ∷ (row1 1 ∷ []) ∷ []) 0 ≡ row1 2 ∷ []

-- v is SELECT a FROM t, w is SELECT a FROM u WHERE a > 1, and then SELECT v.a, w.a FROM v, w WHERE v.a < w.a
abbrev pub pairs_of_views : Meant
pairs_of_views = record {
  catalog = table 1 ∷ table 1 ∷ local_view 1 ∷ local_view 1 ∷ view 2 ∷ [];
  queries = all_of 0
      ∷ block false (source Comma 1 ∷ []) (Some (cond.Compare Gt c0 (expr.Number 1))) None (c0 ∷ [])
      ∷ block false (source Comma 2 ∷ source Comma 3 ∷ []) (Some (cond.Compare Lt c0 (expr.Column 1))) None (c0 ∷ expr.Column 1 ∷ [])
      ∷ [];
}

abbrev pub views_are_paired : Type 0
views_are_paired = view_rows pairs_of_views ((row1 1 ∷ row1 2 ∷ row1 3 ∷ []) ∷ (row1 1 ∷ row1 3 ∷ row1 2 ∷ []) ∷ []) 2 ≡ row2 1 3 ∷ row2 1 2 ∷ row2 2 3 ∷ []

-- a join on a, a count by a, the distinct rows, INTERSECT, EXCEPT
abbrev pub with_nulls : Meant
with_nulls = record {
  catalog = table 1 ∷ table 1 ∷ view 1 ∷ view 2 ∷ view 1 ∷ view 1 ∷ view 1 ∷ [];
  queries = select (source Comma 0 ∷ source (Inner (equal 0 1)) 1 ∷ []) (c0 ∷ [])
      ∷ block false (source Comma 0 ∷ []) None (grouped (0 ∷ []) (count_all ∷ []) None) (expr.Column 0 ∷ expr.Column 1 ∷ [])
      ∷ block true (source Comma 0 ∷ []) None None (c0 ∷ [])
      ∷ query.Intersect (all_of 0 ∷ all_of 1 ∷ [])
      ∷ chain Except (all_of 0) (all_of 1)
      ∷ [];
}

abbrev pub nulls_twice : Tables
nulls_twice = ((Null ∷ []) ∷ (Null ∷ []) ∷ []) ∷ ((Null ∷ []) ∷ []) ∷ []

abbrev pub nulls_do_not_join : Type 0
nulls_do_not_join = view_rows with_nulls nulls_twice 0 ≡ []

abbrev pub nulls_are_one_group : Type 0
nulls_are_one_group = view_rows with_nulls nulls_twice 1 ≡ (Null ∷ int 2 ∷ []) ∷ []

abbrev pub nulls_are_one_distinct_row : Type 0
nulls_are_one_distinct_row = view_rows with_nulls nulls_twice 2 ≡ (Null ∷ []) ∷ []

abbrev pub nulls_are_common : Type 0
nulls_are_common = view_rows with_nulls nulls_twice 3 ≡ (Null ∷ []) ∷ []

abbrev pub nulls_are_taken_away : Type 0
nulls_are_taken_away = view_rows with_nulls nulls_twice 4 ≡ []

-- SELECT l.k FROM l JOIN r ON l.k = r.k
abbrev pub join : Meant
join = record { catalog = table 1 ∷ table 1 ∷ view 1 ∷ []; queries = select (source Comma 0 ∷ source (Inner (equal 0 1)) 1 ∷ []) (c0 ∷ []) ∷ [] }

abbrev pub a_join_needs_both : Type 0
a_join_needs_both = view_rows join ([] ∷ (row1 1 ∷ []) ∷ []) 0 ≡ []

abbrev pub a_join_pairs : Type 0
a_join_pairs = view_rows join ((row1 1 ∷ row1 2 ∷ []) ∷ (row1 2 ∷ row1 2 ∷ []) ∷ []) 0 ≡ row1 2 ∷ row1 2 ∷ []

-- ---- tables of two columns

-- SELECT x.a, y.b FROM t x JOIN t y ON x.b = y.a
abbrev pub self_join : Meant
self_join = record { catalog = table 2 ∷ view 2 ∷ []; queries = select (source Comma 0 ∷ source (Inner (equal 1 2)) 0 ∷ []) (expr.Column 0 ∷ expr.Column 3 ∷ []) ∷ [] }

abbrev pub a_table_joins_itself : Type 0
a_table_joins_itself = view_rows self_join ((row2 1 2 ∷ row2 2 3 ∷ []) ∷ []) 0 ≡ row2 1 3 ∷ []

abbrev pub a_table_joins_itself_later : Type 0
a_table_joins_itself_later = view_rows self_join ((row2 2 3 ∷ row2 3 1 ∷ []) ∷ []) 0 ≡ row2 2 1 ∷ []

-- SELECT l.k, r.n FROM l LEFT JOIN r ON l.k = r.k
abbrev pub left_join : Meant
left_join = record { catalog = table 1 ∷ table 2 ∷ view 2 ∷ []; queries = select (source Comma 0 ∷ source (Left (equal 0 1)) 1 ∷ []) (expr.Column 0 ∷ expr.Column 2 ∷ []) ∷ [] }

abbrev pub a_left_row_is_padded : Type 0
a_left_row_is_padded = view_rows left_join ((row1 1 ∷ row1 1 ∷ []) ∷ [] ∷ []) 0 ≡ (int 1 ∷ Null ∷ []) ∷ (int 1 ∷ Null ∷ []) ∷ []

abbrev pub a_left_row_with_a_match_is_not : Type 0
a_left_row_with_a_match_is_not = view_rows left_join ((row1 1 ∷ row1 1 ∷ []) ∷ (row2 1 7 ∷ []) ∷ []) 0 ≡ row2 1 7 ∷ row2 1 7 ∷ []

-- SELECT g, MIN(a), MAX(a) FROM t GROUP BY g
abbrev pub least_and_greatest : Meant
least_and_greatest = record {
  catalog = table 2 ∷ view 3 ∷ [];
  queries = block false (source Comma 0 ∷ []) None (grouped (0 ∷ []) (call Min 1 ∷ call Max 1 ∷ []) None) (expr.Column 0 ∷ expr.Column 1 ∷ expr.Column 2 ∷ []) ∷ [];
}

abbrev pub groups_have_a_least_and_a_greatest : Type 0
groups_have_a_least_and_a_greatest = view_rows least_and_greatest ((row2 1 3 ∷ row2 1 7 ∷ row2 0 4 ∷ []) ∷ []) 0
    ≡ (int 1 ∷ int 3 ∷ int 7 ∷ []) ∷ (int 0 ∷ int 4 ∷ int 4 ∷ []) ∷ []

abbrev pub the_greatest_is_taken_away : Type 0
the_greatest_is_taken_away = view_rows least_and_greatest ((row2 1 3 ∷ []) ∷ []) 0 ≡ (int 1 ∷ int 3 ∷ int 3 ∷ []) ∷ []

abbrev pub no_row_is_no_group : Type 0
no_row_is_no_group = view_rows least_and_greatest ([] ∷ []) 0 ≡ []

-- SELECT g FROM t GROUP BY g HAVING SUM(a) < 5
abbrev pub small_sums : Meant
small_sums = record {
  catalog = table 2 ∷ view 1 ∷ [];
  queries = block false (source Comma 0 ∷ []) None (grouped (0 ∷ []) (call Sum 1 ∷ []) (Some (cond.Compare Lt (expr.Column 1) (expr.Number 5)))) (c0 ∷ []) ∷ [];
}

abbrev pub one_great_and_one_small : Tables
one_great_and_one_small = (row2 1 9223372036854775807 ∷ row2 2 4 ∷ row2 1 1 ∷ []) ∷ []

abbrev pub having_drops_a_group : Type 0
having_drops_a_group = view_rows small_sums one_great_and_one_small 0 ≡ row1 2 ∷ []

abbrev pub its_sum_is_refused_all_the_same : Type 0
its_sum_is_refused_all_the_same = verdict small_sums one_great_and_one_small ≡ Some 0

-- x (a), y (b, c): an inner join by WHERE, a left join under WHERE, and a left join with the same condition in ON
abbrev pub above_one : Cond
above_one = cond.Compare Gt (expr.Column 2) (expr.Number 1)

abbrev pub where_and_on : Meant
where_and_on = record {
  catalog = table 1 ∷ table 2 ∷ view 2 ∷ view 2 ∷ view 2 ∷ [];
  queries = block false (source Comma 0 ∷ source Comma 1 ∷ []) (Some (cond.All (equal 0 1 ∷ above_one ∷ []))) None (expr.Column 0 ∷ expr.Column 2 ∷ [])
      ∷ block false (source Comma 0 ∷ source (Left (equal 0 1)) 1 ∷ []) (Some above_one) None (expr.Column 0 ∷ expr.Column 2 ∷ [])
      ∷ select (source Comma 0 ∷ source (Left (cond.All (equal 0 1 ∷ above_one ∷ []))) 1 ∷ []) (expr.Column 0 ∷ expr.Column 2 ∷ [])
      ∷ [];
}

abbrev pub two_and_two : Tables
two_and_two = (row1 1 ∷ row1 2 ∷ []) ∷ (row2 1 1 ∷ row2 1 5 ∷ []) ∷ []

abbrev pub where_joins : Type 0
where_joins = view_rows where_and_on two_and_two 0 ≡ row2 1 5 ∷ []

abbrev pub where_drops_padded_rows : Type 0
where_drops_padded_rows = view_rows where_and_on two_and_two 1 ≡ row2 1 5 ∷ []

abbrev pub on_keeps_padded_rows : Type 0
on_keeps_padded_rows = view_rows where_and_on two_and_two 2 ≡ row2 1 5 ∷ (int 2 ∷ Null ∷ []) ∷ []

-- ---- a shop: customers (id, name), orders (id, customer), items (order_id, price, pieces)

-- the revenue of each customer, the customers' names with a revenue of at least 100, the customers without an order
abbrev pub shop : Meant
shop = record {
  catalog = table 2 ∷ table 2 ∷ table 3 ∷ view 3 ∷ view 2 ∷ view 1 ∷ [];
  queries = block false (source Comma 0 ∷ source (Inner (equal 0 3)) 1 ∷ source (Inner (equal 4 2)) 2 ∷ []) None
      (grouped (0 ∷ 1 ∷ []) (record { func = Sum; arg = Some (expr.Product (expr.Column 5 ∷ expr.Column 6 ∷ [])) } ∷ []) None)
      (expr.Column 0 ∷ expr.Column 1 ∷ expr.Column 2 ∷ [])
      ∷ block false (source Comma 3 ∷ []) None (grouped (1 ∷ []) (call Max 2 ∷ []) (Some (cond.Compare Ge (expr.Column 1) (expr.Number 100)))) (expr.Column 0 ∷ expr.Column 1 ∷ [])
      ∷ block false (source Comma 0 ∷ source (Left (equal 0 3)) 1 ∷ []) (Some (cond.Null (expr.Column 2) false)) None (expr.Column 1 ∷ [])
      ∷ [];
}

abbrev pub ana : Value
ana = Text (codes "Ana")

abbrev pub bo : Value
bo = Text (codes "Bo")

abbrev pub customers : List Row
customers = (int 1 ∷ ana ∷ []) ∷ (int 2 ∷ bo ∷ []) ∷ []

abbrev pub after_three_ticks : Tables
after_three_ticks = customers ∷ (row2 10 1 ∷ []) ∷ ((int 10 ∷ int 30 ∷ int 2 ∷ []) ∷ (int 10 ∷ int 25 ∷ int 2 ∷ []) ∷ []) ∷ []

abbrev pub the_shop_has_revenue : Type 0
the_shop_has_revenue = view_rows shop after_three_ticks 0 ≡ (int 1 ∷ ana ∷ int 110 ∷ []) ∷ []

abbrev pub the_shop_has_large_customers : Type 0
the_shop_has_large_customers = view_rows shop after_three_ticks 1 ≡ (ana ∷ int 110 ∷ []) ∷ []

abbrev pub the_shop_has_idle_customers : Type 0
the_shop_has_idle_customers = view_rows shop after_three_ticks 2 ≡ (bo ∷ []) ∷ []

-- ---- tables after updates

abbrev pub insert : ℕ → ℕ → Row → Update
insert line table row = record { line = line; table = table; insert = true; row = row }

abbrev pub delete : ℕ → ℕ → Row → Update
delete line table row = record { line = line; table = table; insert = false; row = row }

-- a delete takes the first of two rows that are the same, and an insert stands at the end
abbrev pub updates_are_made_in_order : Type 0
updates_are_made_in_order = after ((row1 1 ∷ row1 2 ∷ row1 1 ∷ []) ∷ [] ∷ []) (delete 1 0 (row1 1) ∷ insert 2 1 (row1 7) ∷ insert 4 0 (row1 3) ∷ [])
    ≡ Ok ((row1 2 ∷ row1 1 ∷ row1 3 ∷ []) ∷ (row1 7 ∷ []) ∷ [])

abbrev pub an_insert_is_taken_back : Type 0
an_insert_is_taken_back = after ([] ∷ []) (insert 1 0 (row1 1) ∷ delete 2 0 (row1 1) ∷ []) ≡ Ok ([] ∷ [])

abbrev pub a_delete_finds_no_row : Type 0
a_delete_finds_no_row = after ([] ∷ []) (delete 1 0 (row1 1) ∷ insert 2 0 (row1 1) ∷ []) ≡ Err 1

abbrev pub a_second_delete_finds_no_row : Type 0
a_second_delete_finds_no_row = after ((row1 1 ∷ []) ∷ (row1 2 ∷ []) ∷ []) (delete 3 0 (row1 1) ∷ delete 5 0 (row1 2) ∷ delete 6 1 (row1 2) ∷ []) ≡ Err 5
