-- Tests of what stands in a block that need no scope.
use Rattle.std.specs.Prelude.{Bool, false, ◌||◌, is_some, List, [], option_to_list}
use Rattle.std.specs.List.{flat_map, list_any}
use Rattle.sq_ast.specs.declared.cond.CondTree.{CondTree}
use Rattle.sq_ast.specs.declared.expr.ExprTree.{ExprTree}
use Rattle.sq_ast.specs.declared.query.BlockTree.{BlockTree, out-BlockTree}
use Rattle.sq_ast.specs.declared.query.ItemTree.{ItemTree}
use Rattle.sq_ast.specs.declared.query.ItemTree.TheVariants as item
use Rattle.sq_ast.specs.declared.query.JoinTree.{JoinTree}
use Rattle.sq_ast.specs.declared.query.JoinTree.TheVariants as join
use Rattle.sq_typed.specs.Leaves.{Leaf, leaves, call_at, has_call, is_nested, exprs_in, exprs_of}
use Rattle.sq_typed.specs.Selected.{has_group}

-- whether a leaf is a call in whose argument a call stands
abbrev pub nests : Leaf → Bool
nests leaf = list_any is_nested (option_to_list (call_at leaf))

abbrev pub has_nested_call : ExprTree → Bool
has_nested_call e = list_any nests (leaves e)

abbrev pub item_has_call : ItemTree → Bool
item_has_call item.Star = false
item_has_call (item.StarOf name) = false
item_has_call (item.Expr e alias) = has_call e

abbrev pub item_nests : ItemTree → Bool
item_nests item.Star = false
item_nests (item.StarOf name) = false
item_nests (item.Expr e alias) = has_nested_call e

abbrev pub join_has_call : JoinTree → Bool
join_has_call join.Comma = false
join_has_call (join.Inner on) = list_any has_call (exprs_in on)
join_has_call (join.Left on) = list_any has_call (exprs_in on)

-- whether a block has GROUP BY, HAVING or a call in its items
abbrev pub groups : BlockTree → Bool
groups b = has_group (out-BlockTree b).group || is_some (out-BlockTree b).having || list_any item_has_call (out-BlockTree b).items

-- whether a call stands in WHERE or in ON
abbrev pub calls_in_rows : BlockTree → Bool
calls_in_rows b = list_any has_call (exprs_of (out-BlockTree b).filter) || list_any (λ j. join_has_call j.join) (out-BlockTree b).sources

-- whether a call stands in the argument of a call in an item or in HAVING
abbrev pub calls_nest : BlockTree → Bool
calls_nest b = list_any item_nests (out-BlockTree b).items || list_any has_nested_call (exprs_of (out-BlockTree b).having)

-- the leaves of an item that is no star, and those of a condition
abbrev pub leaves_of_item : ItemTree → List Leaf
leaves_of_item item.Star = []
leaves_of_item (item.StarOf name) = []
leaves_of_item (item.Expr e alias) = leaves e

abbrev pub cond_leaves : CondTree → List Leaf
cond_leaves c = flat_map leaves (exprs_in c)
