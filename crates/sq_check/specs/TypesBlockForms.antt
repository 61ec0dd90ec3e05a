-- A typed block over typed sources.
use Rattle.std.specs.Prelude.{ℕ, Bool, if◌then◌else◌, List, map, Option, Some, None, option_map}
use Rattle.sq_ast.specs.declared.cond.CondTree.{CondTree}
use Rattle.sq_ast.specs.declared.query.BlockTree.{BlockTree, out-BlockTree}
use Rattle.sq_typed.specs.declared.query.Block.{roll-Block}
use Rattle.sq_expr.specs.declared.cond.Cond.{Cond}
use Rattle.sq_typed.specs.declared.query.BlockCall.{BlockCall}
use Rattle.sq_typed.specs.declared.query.FromItem.{FromItem}
use Rattle.sq_typed.specs.declared.query.Grouping.{Grouping}
use Rattle.sq_typed.specs.declared.query.Query.{Query}
use Rattle.sq_typed.specs.declared.query.Query.TheVariants as query
use Rattle.sq_typed.specs.Numbered.{row_cond}
use Rattle.sq_typed.specs.Selected.{Scoped, chosen, grouping, item_expr}
use Rattle.sq_scope.specs.TypesGroups.{over_group_cond}
use Rattle.sq_check.specs.declared.frame.Frame.{Frame}

-- the typed query of a block b with this tree, over these sources
abbrev pub block_over : Scoped → BlockTree → List FromItem → Query
block_over b tree sources = query.Block (roll-Block (record {
  distinct = (out-BlockTree tree).distinct;
  sources = sources;
  filter = option_map (row_cond b.scope) b.filter;
  grouping = grouping b;
  items = map (item_expr b) (chosen b);
}))

-- a grouping with these parts, where a block is grouped
abbrev pub grouping_of : Bool → List ℕ → List BlockCall → Option Cond → Option Grouping
grouping_of grouped numbers calls having = if grouped then Some (record { columns = numbers; calls = calls; having = having }) else None

-- the groups of a frame, where it is grouped
abbrev pub frame_grouping : Frame → Option CondTree → Option Grouping
frame_grouping f having = grouping_of f.grouped f.groups.keys.numbers f.groups.calls (option_map (over_group_cond f.row f.groups.keys.numbers f.groups.calls) having)
