-- A block whose sources are known: its select items, with stars written out, and its groups.
--     Scoped        a block and its scope.       chosen b        its items.       block_calls b        its calls, each once
use Rattle.std.specs.Prelude.{ℕ, suc, ◌+◌, ◌==◌, Bool, true, false, ◌||◌, if◌then◌else◌, List, [], ◌∷◌, ◌++◌, map, length, position, bytes_eq, get_or, Option, Some, None, is_some, unwrap_or, option_map}
use Rattle.std.specs.List.{flat_map, filter_map, list_any}
use Rattle.sq_ast.specs.declared.cond.CondTree.{CondTree}
use Rattle.sq_ast.specs.declared.expr.ColRef.{ColRef}
use Rattle.sq_ast.specs.declared.expr.ExprTree.{ExprTree, out-ExprTree}
use Rattle.sq_ast.specs.declared.expr.ExprTree.TheOpen.{ExprTree-F}
use Rattle.sq_ast.specs.declared.expr.TermTree.{TermTree}
use Rattle.sq_ast.specs.declared.query.ItemTree.{ItemTree}
use Rattle.sq_ast.specs.declared.query.ItemTree.TheVariants as item
use Rattle.sq_catalog.specs.declared.relation.Column.{Column}
use Rattle.sq_expr.specs.declared.cond.Cond.{Cond}
use Rattle.sq_expr.specs.declared.expr.Expr.{Expr}
use Rattle.sq_expr.specs.declared.expr.Expr.TheVariants as expr
use Rattle.sq_expr.specs.declared.expr.Kind.{Kind}
use Rattle.sq_expr.specs.declared.expr.Kind.TheVariants.{Bigint}
use Rattle.sq_typed.specs.declared.query.BlockCall.{BlockCall}
use Rattle.sq_typed.specs.declared.query.Grouping.{Grouping}
use Rattle.sq_typed.specs.Leaves.{Leaf, CallTree, leaves, call_at, is_call, exprs_of}
use Rattle.sq_typed.specs.Numbered.{row_expr, replaced, replaced_cond, typed_call, is_same_call, once, kind_of, call_kind}
use Rattle.sq_typed.specs.Scopes.{Text, Scope, kinds_in, number_of}

-- a block, with its sources in the place of their trees, and each condition of ON with the sources up to its own
pub record Scoped : Type 0 where
  pub scope : Scope
  pub ons : List (Scope × CondTree)
  pub items : List ItemTree
  pub filter : Option CondTree
  pub group : List ColRef
  pub having : Option CondTree

-- ---- stars written out

-- an item of a select list: a column that a star stands for, with its number, or an expression that may have an alias
pub data Chosen : Type 0 where
  Starred : ℕ → Column → Chosen
  Written : ExprTree → Option Text → Chosen

abbrev pub starred_from : ℕ → List Column → List Chosen
starred_from n [] = []
starred_from n (c ∷ cs) = Starred n c ∷ starred_from (suc n) cs

-- the columns of the sources whose name passes a test, where the columns of the first source begin at a number
abbrev pub starred : (Text → Bool) → ℕ → Scope → List Chosen
starred test begin [] = []
starred test begin (s ∷ ss) = (if test s.name then starred_from begin s.columns else []) ++ starred test (begin + length s.columns) ss

abbrev pub written_out : Scope → ItemTree → List Chosen
written_out scope item.Star = starred (λ name. true) 0 scope
written_out scope (item.StarOf name) = starred (bytes_eq name) 0 scope
written_out scope (item.Expr e alias) = Written e alias ∷ []

abbrev pub chosen : Scoped → List Chosen
chosen b = flat_map (written_out b.scope) b.items

-- the name of a plain column
abbrev pub plain_name : ExprTree-F ExprTree TermTree → Option Text
plain_name (ExprTree-F.Column r) = Some r.name
plain_name e = None

-- an item's name: its alias, or that of its plain column
abbrev pub item_name : Chosen → Option Text
item_name (Starred n c) = Some c.name
item_name (Written e (Some alias)) = Some alias
item_name (Written e None) = plain_name (out-ExprTree e)

-- ---- groups

abbrev pub item_leaves : Chosen → List Leaf
item_leaves (Starred n c) = []
item_leaves (Written e alias) = leaves e

-- the columns outside calls and the calls of the select list, and those of HAVING
abbrev pub list_leaves : Scoped → List Leaf
list_leaves b = flat_map item_leaves (chosen b)

abbrev pub having_leaves : Scoped → List Leaf
having_leaves b = flat_map leaves (exprs_of b.having)

abbrev pub has_group : List ColRef → Bool
has_group [] = false
has_group (r ∷ rs) = true

-- whether a block has GROUP BY, HAVING or a call in its items
abbrev pub is_grouped : Scoped → Bool
is_grouped b = has_group b.group || is_some b.having || list_any is_call (list_leaves b)

-- the numbers of the columns of GROUP BY
abbrev pub keys : Scoped → List ℕ
keys b = map (number_of b.scope) b.group

-- the calls of the items and of HAVING
abbrev pub call_trees : Scoped → List CallTree
call_trees b = filter_map call_at (list_leaves b ++ having_leaves b)

-- each once, in order of first appearance
abbrev pub block_calls : Scoped → List BlockCall
block_calls b = once is_same_call (map (typed_call b.scope) (call_trees b))

-- the place of a column and that of a call in the group row, which is the columns of GROUP BY and then the calls
abbrev pub key_place : Scoped → ℕ → ℕ
key_place b n = unwrap_or (position (λ k. k == n) (keys b)) 0

abbrev pub call_place : Scoped → CallTree → ℕ
call_place b c = length b.group + unwrap_or (position (is_same_call (typed_call b.scope c)) (block_calls b)) 0

-- an expression over the group row, and a condition
abbrev pub group_expr : Scoped → ExprTree → Expr
group_expr b e = replaced (λ r. expr.Column (key_place b (number_of b.scope r))) (λ c. expr.Column (call_place b c)) e

abbrev pub group_cond : Scoped → CondTree → Cond
group_cond b c = replaced_cond (group_expr b) c

abbrev pub group_kinds : Scoped → List Kind
group_kinds b = map (λ n. get_or (kinds_in b.scope) n Bigint) (keys b) ++ map (λ c. call_kind (kinds_in b.scope) c.func c.arg) (block_calls b)

abbrev pub grouping : Scoped → Option Grouping
grouping b = if is_grouped b then Some (record { columns = keys b; calls = block_calls b; having = option_map (group_cond b) b.having }) else None

-- ---- items

-- an item over the columns of the sources, or over the group row
abbrev pub item_expr : Scoped → Chosen → Expr
item_expr b (Starred n c) = expr.Column (if is_grouped b then key_place b n else n)
item_expr b (Written e alias) = if is_grouped b then group_expr b e else row_expr b.scope e

-- the kinds of the row over which the items are
abbrev pub item_kinds : Scoped → List Kind
item_kinds b = if is_grouped b then group_kinds b else kinds_in b.scope

-- the column that an item gives; any may be NULL, and one without a name has the empty name here
abbrev pub item_column : Scoped → Chosen → Column
item_column b i = record { name = unwrap_or (item_name i) []; kind = kind_of (item_kinds b) (item_expr b i); nullable = true }

abbrev pub block_columns : Scoped → List Column
block_columns b = map (item_column b) (chosen b)
