-- A block over lists of rows: grouping, aggregates, select items, repeats.
use Rattle.std.specs.Prelude.{ℕ, pos, Bool, true, false, not, if◌then◌else◌, List, [], ◌∷◌, ◌++◌, map, length, Option, Some, None}
use Rattle.std.specs.List.{filter, flat_map}
use Rattle.std.specs.Ordering.{is_eq}
use Rattle.sq_value.specs.declared.value.Value.{Value}
use Rattle.sq_value.specs.declared.value.Value.TheVariants.{Null, Int}
use Rattle.sq_value.specs.Order.{row_cmp}
use Rattle.sq_algebra.specs.Listed.{first_of_each}
use Rattle.sq_expr.specs.declared.cond.Cond.{Cond}
use Rattle.sq_expr.specs.declared.expr.Expr.{Expr}
use Rattle.sq_expr.specs.declared.expr.Func.{Func}
use Rattle.sq_expr.specs.declared.expr.Func.TheVariants.{CountAll, Count, Sum, Min, Max}
use Rattle.sq_expr.specs.Extremes.{greatest_or_null, least_or_null}
use Rattle.sq_expr.specs.Meaning.{num, columns_of, sum_of, is_null}
use Rattle.sq_typed.specs.declared.query.Grouping.{Grouping}
use Rattle.sq_typed.specs.declared.query.BlockCall.{BlockCall}
use Rattle.sq_typed.specs.From.{Row, Answer, Source, all_hold, members_of, kept, stages}

-- ---- aggregates

-- the values that are not NULL
abbrev pub present : List Value → List Value
present xs = filter (λ x. not (is_null x)) xs

-- the sum of some values, NULL of none
abbrev pub sum_or_null : List Value → Value
sum_or_null [] = Null
sum_or_null (x ∷ xs) = sum_of (x ∷ xs)

-- the argument of a call on each of some rows
abbrev pub arguments : Option Expr → List Row → List Value
arguments None rows = []
arguments (Some e) rows = map (num e) rows

-- the value of a call over the rows of a group
abbrev pub call_value : Func → Option Expr → List Row → Value
call_value CountAll arg rows = Int (pos (length rows))
call_value Count arg rows = Int (pos (length (present (arguments arg rows))))
call_value Sum arg rows = sum_or_null (present (arguments arg rows))
call_value Min arg rows = least_or_null (present (arguments arg rows))
call_value Max arg rows = greatest_or_null (present (arguments arg rows))

abbrev pub is_sum : Func → Bool
is_sum CountAll = false
is_sum Count = false
is_sum Sum = true
is_sum Min = false
is_sum Max = false

-- ---- groups

-- the rows by the values in the group columns, in order of first appearance; with no group column all of them, also where there are none
abbrev pub groups : List ℕ → List Row → List (Row × List Row)
groups [] rows = ([], rows) ∷ []
groups (c ∷ cs) rows = map (λ k. (k, filter (λ row. is_eq (row_cmp k (columns_of (c ∷ cs) row))) rows)) (first_of_each row_cmp (map (columns_of (c ∷ cs)) rows))

-- the group columns, and then the values of the calls
abbrev pub group_row : List BlockCall → Row × List Row → Row
group_row calls g = g.0 ++ map (λ c. call_value c.func c.arg g.1) calls

-- ---- the block

-- the rows on which the items are computed: those that WHERE keeps, or the group rows that HAVING keeps
abbrev pub item_rows : Option Grouping → List Row → List Row
item_rows None rows = rows
item_rows (Some g) rows = filter (all_hold (members_of g.having)) (map (group_row g.calls) (groups g.columns rows))

-- each row's items
abbrev pub selected : List Expr → List Row → List Row
selected items rows = map (λ row. map (λ e. num e row) items) rows

-- each row once, where repeats are to go
abbrev pub without_repeats : Bool → List Row → List Row
without_repeats distinct rows = if distinct then first_of_each row_cmp rows else rows

-- the arguments of the calls on each row, and each SUM of each group
abbrev pub tested_calls : Option Grouping → List Row → List Value
tested_calls None rows = []
tested_calls (Some g) rows =
    flat_map (λ c. arguments c.arg rows) g.calls
    ++ flat_map (λ group. map (λ c. call_value c.func c.arg group.1) (filter (λ c. is_sum c.func) g.calls)) (groups g.columns rows)

-- what a block gives over what its sources give
abbrev pub block_answer : Bool → List Source → Option Cond → Option Grouping → List Expr → Answer
block_answer distinct sources where_ grouping items = record {
  width = length items;
  rows = without_repeats distinct (selected items (item_rows grouping (kept (members_of where_) sources)));
  places = flat_map (λ s. s.answer.places) sources ++ map (λ stage. stage.0) (stages (members_of where_) sources);
  tested = flat_map (λ s. s.answer.tested) sources ++ tested_calls grouping (kept (members_of where_) sources)
      ++ flat_map (λ row. row) (selected items (item_rows grouping (kept (members_of where_) sources)));
}
