-- Groups over expressions as operators: the group columns and the arguments are projected, and then grouped by the first columns.
--     group_items g      what is projected.       group_spec g      how it is grouped
--     item_node grouping n      the rows on which the items are computed.      block_node      the rows of a block
use Rattle.std.specs.Prelude.{ℕ, suc, ◌+◌, ◌||◌, Bool, true, false, List, [], ◌∷◌, ◌++◌, length, map, Option, Some, None, is_some, option_to_list}
use Rattle.std.specs.List.{filter, flat_map}
use Rattle.sq_value.specs.declared.value.Value.{Value}
use Rattle.sq_algebra.specs.Keyed.{numbers_below}
use Rattle.sq_algebra.specs.Operators.{distinct}
use Rattle.sq_expr.specs.declared.cond.Cond.{Cond}
use Rattle.sq_expr.specs.declared.expr.Expr.{Expr}
use Rattle.sq_expr.specs.declared.expr.Expr.TheVariants as expr
use Rattle.sq_ops.specs.declared.aggregate.AggSpec.{AggSpec}
use Rattle.sq_ops.specs.declared.aggregate.Call.{Call}
use Rattle.sq_ops.specs.Aggregates.{aggregated, first_sum_outside}
use Rattle.sq_ops.specs.Wholes.{has_no_values}
use Rattle.sq_typed.specs.declared.query.BlockCall.{BlockCall}
use Rattle.sq_typed.specs.declared.query.Grouping.{Grouping}
use Rattle.sq_typed.specs.Blocks.{call_value, is_sum}
use Rattle.sq_typed.specs.From.{Row, members_of}
use Rattle.sq_bridge.specs.Nodes.{Node, NodeSource, has_item_outside, joined_node}
use Rattle.sq_bridge.specs.Rows.{Rows, kept_on_all, projected}

-- ---- groups

-- the arguments of the calls that have one
abbrev pub argument_items : List BlockCall → List Expr
argument_items calls = flat_map (λ c. option_to_list c.arg) calls

-- the column of the next argument, where n is free, and the next free column
abbrev pub slot : ℕ → Option Expr → ℕ
slot n None = 0
slot n (Some e) = n

abbrev pub behind : ℕ → Option Expr → ℕ
behind n None = n
behind n (Some e) = suc n

-- the calls over the columns of their arguments, from column n on; COUNT(*) reads none
abbrev pub calls_from : ℕ → List BlockCall → List Call
calls_from n [] = []
calls_from n (c ∷ cs) = record { func = c.func; arg = slot n c.arg } ∷ calls_from (behind n c.arg) cs

abbrev pub group_items : Grouping → List Expr
group_items g = map expr.Column g.columns ++ argument_items g.calls

abbrev pub group_spec : Grouping → AggSpec
group_spec g = record {
  group = numbers_below (length g.columns);
  calls = calls_from (length g.columns) g.calls;
  global = has_no_values g.columns;
}

abbrev pub group_rows : Grouping → Rows → Rows
group_rows g z = aggregated (group_spec g) (projected (group_items g) z)

-- whether a SUM of some group is outside BIGINT
abbrev pub has_sum_outside : Grouping → Rows → Bool
has_sum_outside g z = is_some (first_sum_outside (group_spec g) (projected (group_items g) z))

abbrev pub has_group_fault : Grouping → Rows → Bool
has_group_fault g z = has_item_outside (group_items g) z || has_sum_outside g z

-- the SUMs of a group
abbrev pub tested_sums : List BlockCall → Row × List Row → List Value
tested_sums calls group = map (λ c. call_value c.func c.arg group.1) (filter (λ c. is_sum c.func) calls)

-- ---- the block

abbrev pub item_node : Option Grouping → Node → Node
item_node None n = n
item_node (Some g) n = record {
  width = length g.columns + length g.calls;
  rows = kept_on_all (members_of g.having) (group_rows g n.rows);
  fault = n.fault || has_group_fault g n.rows;
}

abbrev pub selected_node : List Expr → Node → Node
selected_node items n = record { width = length items; rows = projected items n.rows; fault = n.fault || has_item_outside items n.rows }

abbrev pub once_node : Bool → Node → Node
once_node true n = record { width = n.width; rows = distinct n.rows; fault = n.fault }
once_node false n = n

abbrev pub block_node : Bool → List NodeSource → Option Cond → Option Grouping → List Expr → Node
block_node is_distinct sources where_ grouping items = once_node is_distinct (selected_node items (item_node grouping (joined_node (members_of where_) sources)))
