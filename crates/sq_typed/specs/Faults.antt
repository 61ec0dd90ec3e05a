-- Why a statement is refused.
--     first_fault before s        the first kind of fault, in their order, that a statement has behind those before it
--     refused statements          the first statement that has a fault, and its first kind
use Rattle.std.specs.Prelude.{◌≡◌, ℕ, ◌^◌, ◌==◌, bytes_eq, nat_lt, nat_le, Bool, false, not, ◌&&◌, ◌||◌, List, [], ◌∷◌, ◌++◌, map, length, find, Option, Some, None, is_none, option_to_list}
use Rattle.std.specs.List.{flat_map, filter_map, list_any}
use Rattle.sq_ast.specs.declared.expr.ColRef.{ColRef}
use Rattle.sq_ast.specs.declared.expr.ExprTree.{ExprTree}
use Rattle.sq_ast.specs.declared.query.ItemTree.{ItemTree}
use Rattle.sq_ast.specs.declared.query.ItemTree.TheVariants as item
use Rattle.sq_ast.specs.declared.statement.Body.{Body}
use Rattle.sq_ast.specs.declared.statement.Body.TheVariants as body
use Rattle.sq_ast.specs.declared.statement.Statement.{Statement}
use Rattle.sq_catalog.specs.Names.{is_named}
use Rattle.sq_catalog.specs.declared.relation.Column.{Column}
use Rattle.sq_catalog.specs.declared.relation.Relation.{Relation}
use Rattle.sq_expr.specs.Bounds.{bound_of, parts, cond_parts}
use Rattle.sq_expr.specs.Typing.{sort_of, sort_of_kind, is_numeric, are_alike, is_typed_cond}
use Rattle.sq_expr.specs.declared.cond.Cond.{Cond}
use Rattle.sq_expr.specs.declared.expr.Expr.{Expr}
use Rattle.sq_expr.specs.declared.expr.Func.{Func}
use Rattle.sq_expr.specs.declared.expr.Kind.{Kind}
use Rattle.sq_typed.specs.Blocks.{is_sum}
use Rattle.sq_typed.specs.Leaves.{refs, leaves, column_at, has_call, is_nested, exprs_in, exprs_of}
use Rattle.sq_typed.specs.Numbered.{row_cond}
use Rattle.sq_typed.specs.Programs.{catalog_of, table_column}
use Rattle.sq_typed.specs.Resolved.{Resolved, Parts, no_parts, resolved}
use Rattle.sq_typed.specs.Scopes.{Text, Scope, repeats, places, number_of, kinds_in}
use Rattle.sq_typed.specs.Selected.{Scoped, Chosen, Starred, Written, chosen, item_name, having_leaves, is_grouped, keys, call_trees, block_calls, block_columns, group_cond, group_kinds, item_expr, item_kinds}
use Rattle.sq_typed.specs.declared.limits.TheConstants.{MOST_COLUMNS, MOST_SOURCES, MOST_STATEMENTS}
use Rattle.sq_typed.specs.declared.check_kind.CheckKind.{CheckKind}
use Rattle.sq_typed.specs.declared.check_kind.CheckKind.TheVariants.{DuplicateName, UnknownRelation, UnnamedColumn, DuplicateColumn, UnknownColumn, AmbiguousColumn}
use Rattle.sq_typed.specs.declared.check_kind.CheckKind.TheVariants.{NestedAggregate, NotGrouped, ColumnCount, TypeMismatch, TooWide, Limit}

-- what a statement creates, the leftmost block of a view's query, and what stands in it
pub record Described : Type 0 where
  pub name : Text
  pub columns : List Column
  pub leftmost : List Scoped
  pub parts : Parts

abbrev pub described_view : Text → Resolved → Described
described_view name r = record { name = name; columns = r.columns; leftmost = r.leftmost; parts = r.parts }

abbrev pub described : List Relation → Body → Described
described relations (body.Table name columns) = record { name = name; columns = map table_column columns; leftmost = []; parts = no_parts }
described relations (body.View name flavour q) = described_view name (resolved relations q)

-- ---- names

abbrev pub names : List Column → List Text
names columns = map (λ c. c.name) columns

abbrev pub has_same_sources : Scoped → Bool
has_same_sources b = repeats (map (λ s. s.name) b.scope)

abbrev pub has_unnamed_item : Scoped → Bool
has_unnamed_item b = list_any (λ i. is_none (item_name i)) (chosen b)

-- ---- references

abbrev pub item_exprs : ItemTree → List ExprTree
item_exprs item.Star = []
item_exprs (item.StarOf name) = []
item_exprs (item.Expr e alias) = e ∷ []

-- the references of a block, each with the sources that are in scope for it: in ON those up to the condition's own, elsewhere all
abbrev pub references : Scoped → List (Scope × ColRef)
references b =
    map (λ r. (b.scope, r)) (flat_map refs (flat_map item_exprs b.items ++ exprs_of b.filter ++ exprs_of b.having) ++ b.group)
    ++ flat_map (λ on. map (λ r. (on.0, r)) (flat_map refs (exprs_in on.1))) b.ons

abbrev pub finds_nothing : Scope × ColRef → Bool
finds_nothing r = nat_lt (length (places r.0 r.1)) 1

abbrev pub finds_several : Scope × ColRef → Bool
finds_several r = is_none r.1.qualifier && nat_lt 1 (length (places r.0 r.1))

abbrev pub is_unknown_star : Scope → ItemTree → Bool
is_unknown_star scope item.Star = false
is_unknown_star scope (item.StarOf name) = not (list_any (λ s. bytes_eq name s.name) scope)
is_unknown_star scope (item.Expr e alias) = false

abbrev pub has_unknown_column : Scoped → Bool
has_unknown_column b = list_any finds_nothing (references b) || list_any (is_unknown_star b.scope) b.items

abbrev pub has_ambiguous_column : Scoped → Bool
has_ambiguous_column b = list_any finds_several (references b)

-- ---- groups

abbrev pub has_nested_aggregate : Scoped → Bool
has_nested_aggregate b = list_any has_call (exprs_of b.filter ++ flat_map (λ on. exprs_in on.1) b.ons) || list_any is_nested (call_trees b)

-- the numbers of the columns that an item names outside calls
abbrev pub item_columns : Scope → Chosen → List ℕ
item_columns scope (Starred n c) = n ∷ []
item_columns scope (Written e alias) = map (number_of scope) (filter_map column_at (leaves e))

abbrev pub bare_columns : Scoped → List ℕ
bare_columns b = flat_map (item_columns b.scope) (chosen b) ++ map (number_of b.scope) (filter_map column_at (having_leaves b))

abbrev pub has_bare_column : Scoped → Bool
has_bare_column b = is_grouped b && list_any (λ n. not (list_any (λ k. k == n) (keys b))) (bare_columns b)

-- ---- types and bounds

-- the expressions of a block that are items or arguments of calls, and its conditions, each with the kinds of the row over which it is
abbrev pub typed_exprs : Scoped → List (List Kind × Expr)
typed_exprs b = map (λ i. (item_kinds b, item_expr b i)) (chosen b) ++ map (λ e. (kinds_in b.scope, e)) (filter_map (λ c. c.arg) (block_calls b))

abbrev pub typed_conds : Scoped → List (List Kind × Cond)
typed_conds b =
    map (λ c. (kinds_in b.scope, row_cond b.scope c)) (option_to_list b.filter)
    ++ map (λ on. (kinds_in on.0, row_cond on.0 on.1)) b.ons
    ++ map (λ c. (group_kinds b, group_cond b c)) (option_to_list b.having)

-- whether a call is a SUM of a text
abbrev pub sums_text : List Kind → Func → Option Expr → Bool
sums_text kinds f None = false
sums_text kinds f (Some e) = is_sum f && not (is_numeric (sort_of kinds e))

abbrev pub has_mixed_types : Scoped → Bool
has_mixed_types b =
    list_any (λ e. is_none (sort_of e.0 e.1)) (typed_exprs b)
    || list_any (λ c. not (is_typed_cond c.0 c.1)) (typed_conds b)
    || list_any (λ c. sums_text (kinds_in b.scope) c.func c.arg) (block_calls b)

abbrev pub is_too_wide : List Kind → Expr → Bool
is_too_wide kinds e = nat_le (2 ^ 127) (bound_of kinds e)

abbrev pub has_wide_expr : Scoped → Bool
has_wide_expr b =
    list_any (λ e. list_any (is_too_wide e.0) (parts e.1)) (typed_exprs b)
    || list_any (λ c. list_any (is_too_wide c.0) (cond_parts c.1)) (typed_conds b)

-- ---- set operations

abbrev pub differ_in_count : List (List Column) → Bool
differ_in_count [] = false
differ_in_count (cs ∷ css) = list_any (λ ds. not (length ds == length cs)) css

abbrev pub differ_in_sort : List Column → List Column → Bool
differ_in_sort (c ∷ cs) (d ∷ ds) = not (are_alike (Some (sort_of_kind c.kind)) (Some (sort_of_kind d.kind))) || differ_in_sort cs ds
differ_in_sort cs ds = false

abbrev pub mixes_sorts : List (List Column) → Bool
mixes_sorts [] = false
mixes_sorts (cs ∷ css) = list_any (differ_in_sort cs) css

-- ---- the kinds of faults

abbrev pub has_long_list : Scoped → Bool
has_long_list b = nat_lt MOST_COLUMNS (length (chosen b)) || nat_lt MOST_SOURCES (length b.scope)

-- whether a statement has what a kind of fault is about, behind so many statements that created these relations. A statement's
-- faults are those of these kinds that stand before all others that it has
abbrev pub has : List Relation → ℕ → Described → CheckKind → Bool
has relations before s DuplicateName = is_named s.name relations || list_any has_same_sources s.parts.blocks
has relations before s UnknownRelation = list_any (λ name. not (is_named name relations)) s.parts.relations
has relations before s UnnamedColumn = list_any has_unnamed_item s.leftmost || list_any has_unnamed_item s.parts.heads
has relations before s DuplicateColumn = repeats (names s.columns) || list_any (λ b. repeats (names (block_columns b))) s.parts.heads
has relations before s UnknownColumn = list_any has_unknown_column s.parts.blocks
has relations before s AmbiguousColumn = list_any has_ambiguous_column s.parts.blocks
has relations before s NestedAggregate = list_any has_nested_aggregate s.parts.blocks
has relations before s NotGrouped = list_any has_bare_column s.parts.blocks
has relations before s ColumnCount = list_any differ_in_count s.parts.operations
has relations before s TypeMismatch = list_any has_mixed_types s.parts.blocks || list_any mixes_sorts s.parts.operations
has relations before s TooWide = list_any has_wide_expr s.parts.blocks
has relations before s Limit = nat_le MOST_STATEMENTS before || nat_lt MOST_COLUMNS (length s.columns) || list_any has_long_list s.parts.blocks

-- their order
abbrev pub kinds_in_order : List CheckKind
kinds_in_order = DuplicateName ∷ UnknownRelation ∷ UnnamedColumn ∷ DuplicateColumn ∷ UnknownColumn ∷ AmbiguousColumn ∷ NestedAggregate ∷ NotGrouped ∷ ColumnCount ∷ TypeMismatch ∷ TooWide ∷ Limit ∷ []

-- whether a statement has what a kind is about, behind those before it
abbrev pub has_kind : List Statement → Statement → CheckKind → Bool
has_kind before s = has (catalog_of before) (length before) (described (catalog_of before) s.body)

unfoldable pub first_kind : List Relation → ℕ → Described → Option CheckKind
first_kind relations before s = find (has relations before s) kinds_in_order

-- the first kind that a statement has behind those before it
abbrev pub first_fault : List Statement → Statement → Option CheckKind
first_fault before s = first_kind (catalog_of before) (length before) (described (catalog_of before) s.body)

abbrev pub HasFault : List Statement → Statement → CheckKind → Type 0
HasFault before s kind = first_fault before s ≡ Some kind

-- ---- the first statement that has a fault

abbrev pub or_later : {K : Type 0} → ℕ → Option K → Option (ℕ × K) → Option (ℕ × K)
or_later number None later = later
or_later number (Some kind) later = Some (number, kind)

abbrev pub refused_from : List Statement → List Statement → Option (ℕ × CheckKind)
refused_from before [] = None
refused_from before (s ∷ ss) = or_later s.number (first_fault before s) (refused_from (before ++ s ∷ []) ss)

-- the number of the first statement that has a fault, and its first kind
abbrev pub refused : List Statement → Option (ℕ × CheckKind)
refused statements = refused_from [] statements
