-- What the items of a block are over, and its items and columns in these terms.
use Rattle.std.specs.Prelude.{◌≡◌, ℕ, true, if◌then◌else◌, List, [], unwrap_or}
use Rattle.sq_ast.specs.declared.expr.ExprTree.{ExprTree}
use Rattle.sq_catalog.specs.declared.relation.Column.{Column}
use Rattle.sq_expr.specs.declared.expr.Expr.{Expr}
use Rattle.sq_expr.specs.declared.expr.Expr.TheVariants as expr
use Rattle.sq_expr.specs.declared.expr.Kind.{Kind}
use Rattle.sq_typed.specs.Numbered.{row_expr, kind_of}
use Rattle.sq_typed.specs.Scopes.{kinds_in}
use Rattle.sq_typed.specs.Selected.{Scoped, Chosen, Starred, Written, item_name, is_grouped, keys, block_calls, group_kinds}
use Rattle.sq_scope.specs.TypesGroups.{place_of_key, over_group}
use Rattle.sq_check.specs.declared.frame.Frame.{Frame}

-- the place of a column of the sources in the row over which the items are
abbrev pub frame_place : Frame → ℕ → ℕ
frame_place f n = if f.grouped then place_of_key f.groups.keys.numbers n else n

abbrev pub frame_expr : Frame → ExprTree → Expr
frame_expr f e = if f.grouped then over_group f.row f.groups.keys.numbers f.groups.calls e else row_expr f.row e

abbrev pub frame_kinds : Frame → List Kind
frame_kinds f = if f.grouped then f.group_kinds else kinds_in f.row

abbrev pub frame_item : Frame → Chosen → Expr
frame_item f (Starred n c) = expr.Column (frame_place f n)
frame_item f (Written e alias) = frame_expr f e

abbrev pub frame_column : Frame → Chosen → Column
frame_column f i = record { name = unwrap_or (item_name i) []; kind = kind_of (frame_kinds f) (frame_item f i); nullable = true }

-- a frame has what the items of a block are over
pub record IsFrame (b : Scoped) (f : Frame) : Type 0 where
  pub row : f.row ≡ b.scope
  pub grouped : f.grouped ≡ is_grouped b
  pub numbers : f.groups.keys.numbers ≡ keys b
  pub calls : f.groups.calls ≡ block_calls b
  pub kinds : f.group_kinds ≡ group_kinds b
