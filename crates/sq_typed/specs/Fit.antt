-- Which queries fit the relations before them, and of which kinds their columns are.
--     kinds_given relations q        the kinds of its columns.       Fits relations q        all that it names is there and has a type
--     ProgramFits        each view's query fits, with the kinds of the view's columns
use Rattle.std.specs.Prelude.{◌≡◌, ◌^◌, nat_lt, Bool, true, false, not, ◌&&◌, ◌||◌, List, [], ◌∷◌, ◌++◌, map, fold, length, drop, get_or, slice_get, Option, Some, None, IsTrue, is_some, option_to_list, ⊤}
use Rattle.std.specs.List.{AllByRecursion, filter_map, flat_map, list_all}
use Rattle.sq_catalog.specs.declared.relation.Relation.{Relation}
use Rattle.sq_catalog.specs.declared.relation.RelationKind.{RelationKind}
use Rattle.sq_catalog.specs.declared.relation.RelationKind.TheVariants.{Table, View}
use Rattle.sq_expr.specs.Bounds.{bound_of, parts, cond_parts}
use Rattle.sq_expr.specs.Fits.{Suits}
use Rattle.sq_expr.specs.Kinds.{AreOfKinds}
use Rattle.sq_expr.specs.Typing.{sort_of, sort_of_kind, is_numeric, are_alike, is_typed_cond}
use Rattle.sq_expr.specs.declared.cond.Cond.{Cond}
use Rattle.sq_expr.specs.declared.expr.Expr.{Expr}
use Rattle.sq_expr.specs.declared.expr.Func.{Func}
use Rattle.sq_expr.specs.declared.expr.Func.TheVariants.{CountAll, Count, Sum, Min, Max}
use Rattle.sq_expr.specs.declared.expr.Kind.{Kind}
use Rattle.sq_expr.specs.declared.expr.Kind.TheVariants.{Bigint}
use Rattle.sq_typed.specs.declared.query.Block.{Block, out-Block}
use Rattle.sq_typed.specs.declared.query.BlockCall.{BlockCall}
use Rattle.sq_typed.specs.declared.query.FromItem.{FromItem}
use Rattle.sq_typed.specs.declared.query.FromJoin.{FromJoin}
use Rattle.sq_typed.specs.declared.query.FromJoin.TheVariants.{Comma, Inner, Left}
use Rattle.sq_typed.specs.declared.query.Grouping.{Grouping}
use Rattle.sq_typed.specs.declared.query.Origin.{Origin}
use Rattle.sq_typed.specs.declared.query.Origin.TheFolds.{fold-Query, fold-Origin, fold-FromItem}
use Rattle.sq_typed.specs.declared.query.Origin.TheOpen.{Query-F, Block-F, FromItem-F, Origin-F}
use Rattle.sq_typed.specs.declared.query.Query.{Query}
use Rattle.sq_typed.specs.Blocks.{is_sum, selected, tested_calls}
use Rattle.sq_typed.specs.From.{Row, Answer, Source}
use Rattle.sq_typed.specs.Laws.{by_kind}
use Rattle.sq_typed.specs.Numbered.{kind_of, call_kind}
use Rattle.sq_typed.specs.Queries.{Contents, answer, is_outside}
use Rattle.sq_typed.specs.Resolved.{wider}
use Rattle.sq_typed.specs.Tables.{Tables}
use Rattle.sq_typed.specs.Views.{Meant, first_rows, verdict, views}
use Rattle.sq_value.specs.declared.value.Value.{Value}

-- the kinds of the columns of a query, and whether it fits
pub record Kinded : Type 0 where
  pub kinds : List Kind
  pub fits : Bool

-- a source of a block, and how it is joined to those before it
pub record KindedSource : Type 0 where
  pub join : FromJoin
  pub kinded : Kinded

-- ---- expressions and conditions

-- whether these are all at most 2^127 - 1 in absolute value
abbrev pub are_small : List Kind → List Expr → Bool
are_small kinds es = list_all (λ e. nat_lt (bound_of kinds e) (2 ^ 127)) es

abbrev pub suits : List Kind → Expr → Bool
suits kinds e = is_some (sort_of kinds e) && are_small kinds (parts e)

abbrev pub suits_cond : List Kind → Cond → Bool
suits_cond kinds c = is_typed_cond kinds c && are_small kinds (cond_parts c)

abbrev pub may_suit : List Kind → Option Cond → Bool
may_suit kinds None = true
may_suit kinds (Some c) = suits_cond kinds c

-- ---- the sources of a block

abbrev pub on_suits : List Kind → FromJoin → Bool
on_suits kinds Comma = true
on_suits kinds (Inner on) = suits_cond kinds on
on_suits kinds (Left on) = suits_cond kinds on

-- the kinds of the columns of some sources
abbrev pub joined_kinds : List KindedSource → List Kind
joined_kinds sources = flat_map (λ s. s.kinded.kinds) sources

-- each source fits, and each condition of ON suits the columns before it and those of its own source
abbrev pub sources_fit : List Kind → List KindedSource → Bool
sources_fit before [] = true
sources_fit before (s ∷ ss) = (s.kinded.fits && on_suits (before ++ s.kinded.kinds) s.join) && sources_fit (before ++ s.kinded.kinds) ss

abbrev pub has_some : List KindedSource → Bool
has_some [] = false
has_some (s ∷ ss) = true

-- ---- groups

abbrev pub is_count_all : Func → Bool
is_count_all CountAll = true
is_count_all Count = false
is_count_all Sum = false
is_count_all Min = false
is_count_all Max = false

-- a call has an argument unless it is COUNT(*); the argument suits, and that of SUM is a number
abbrev pub argument_fits : List Kind → Func → Option Expr → Bool
argument_fits kinds f None = is_count_all f
argument_fits kinds f (Some e) = not (is_count_all f) && (suits kinds e && (not (is_sum f) || is_numeric (sort_of kinds e)))

-- the argument of a call suits, if there is one
abbrev pub ArgumentSuits : List Kind → BlockCall → Type 0
ArgumentSuits kinds c = AllByRecursion (Suits kinds) (option_to_list c.arg)

-- this is how a block is grouped
abbrev pub IsGroupedBy : Block → Grouping → Type 0
IsGroupedBy b g = (out-Block b).grouping ≡ Some g

-- the kinds of the group row
abbrev pub grouped_kinds : List Kind → Grouping → List Kind
grouped_kinds kinds g = map (λ n. get_or kinds n Bigint) g.columns ++ map (λ c. call_kind kinds c.func c.arg) g.calls

-- the group columns are there, the arguments fit, and HAVING suits the group row
abbrev pub grouping_fits : List Kind → Grouping → Bool
grouping_fits kinds g = list_all (λ n. nat_lt n (length kinds)) g.columns && (list_all (λ c. argument_fits kinds c.func c.arg) g.calls && may_suit (grouped_kinds kinds g) g.having)

-- the kinds of the row on which the items are computed
abbrev pub item_row_kinds : List Kind → Option Grouping → List Kind
item_row_kinds kinds None = kinds
item_row_kinds kinds (Some g) = grouped_kinds kinds g

abbrev pub may_group : List Kind → Option Grouping → Bool
may_group kinds None = true
may_group kinds (Some g) = grouping_fits kinds g

-- ---- the block

-- what is over the columns of the sources, and over the group row
abbrev pub clauses_fit : List Kind → Option Cond → Option Grouping → List Expr → Bool
clauses_fit kinds where_ grouping items = may_suit kinds where_ && (may_group kinds grouping && list_all (suits (item_row_kinds kinds grouping)) items)

abbrev pub block_kinded : List KindedSource → Option Cond → Option Grouping → List Expr → Kinded
block_kinded sources where_ grouping items = record {
  kinds = map (kind_of (item_row_kinds (joined_kinds sources) grouping)) items;
  fits = (has_some sources && sources_fit [] sources) && clauses_fit (joined_kinds sources) where_ grouping items;
}

-- ---- set operations

-- as many columns, and a number or a text in the same places
abbrev pub are_matched : List Kind → List Kind → Bool
are_matched [] [] = true
are_matched [] (l ∷ ls) = false
are_matched (k ∷ ks) [] = false
are_matched (k ∷ ks) (l ∷ ls) = are_alike (Some (sort_of_kind k)) (Some (sort_of_kind l)) && are_matched ks ls

-- BIGINT where one of the two is
abbrev pub wider_kinds : List Kind → List Kind → List Kind
wider_kinds [] ls = []
wider_kinds (k ∷ ks) [] = k ∷ ks
wider_kinds (k ∷ ks) (l ∷ ls) = wider k l ∷ wider_kinds ks ls

abbrev pub operation_kinded : List Kinded → Kinded
operation_kinded [] = record { kinds = []; fits = false }
operation_kinded (first ∷ rest) = record {
  kinds = fold wider_kinds first.kinds (map (λ m. m.kinds) rest);
  fits = first.fits && list_all (λ m. m.fits && are_matched first.kinds m.kinds) rest;
}

-- ---- queries

-- a relation that may be there
abbrev pub relation_kinded : Option (List Kind) → Kinded
relation_kinded None = record { kinds = []; fits = false }
relation_kinded (Some kinds) = record { kinds = kinds; fits = true }

-- one level of a query, with the kinds of each part in its place
abbrev pub kinded_by_query : Query-F Kinded Kinded Kinded KindedSource Kinded → Kinded
kinded_by_query (Query-F.Block b) = b
kinded_by_query (Query-F.Chain first rest) = operation_kinded (first ∷ rest)
kinded_by_query (Query-F.Intersect members) = operation_kinded members

abbrev pub kinded_by_block : Block-F Kinded Kinded Kinded KindedSource Kinded → Kinded
kinded_by_block b = block_kinded b.sources b.filter b.grouping b.items

abbrev pub kinded_by_source : FromItem-F Kinded Kinded Kinded KindedSource Kinded → KindedSource
kinded_by_source s = record { join = s.join; kinded = s.source }

module _ (relations : List (List Kind)) where
  abbrev pub kinded_by_origin : Origin-F Kinded Kinded Kinded KindedSource Kinded → Kinded
  kinded_by_origin (Origin-F.Relation n) = relation_kinded (slice_get relations n)
  kinded_by_origin (Origin-F.Query k) = k

  -- over relations with columns of these kinds
  unfoldable pub kinded : Query → Kinded
  kinded q = fold-Query Kinded Kinded Kinded KindedSource Kinded kinded_by_origin kinded_by_query kinded_by_block kinded_by_source (λ s. s.query) q

  unfoldable pub kinded_origin : Origin → Kinded
  kinded_origin o = fold-Origin Kinded Kinded Kinded KindedSource Kinded kinded_by_origin kinded_by_query kinded_by_block kinded_by_source (λ s. s.query) o

  unfoldable pub kinded_source : FromItem → KindedSource
  kinded_source s = fold-FromItem Kinded Kinded Kinded KindedSource Kinded kinded_by_origin kinded_by_query kinded_by_block kinded_by_source (λ s. s.query) s

  -- the kinds of the columns of all sources of a block, one behind the other
  abbrev pub source_kinds : Block → List Kind
  source_kinds b = joined_kinds (map kinded_source (out-Block b).sources)

  -- the kinds of the group row of a block
  abbrev pub group_kinds : Block → Grouping → List Kind
  group_kinds b g = grouped_kinds (source_kinds b) g

  -- the kinds of the columns of a query
  abbrev pub kinds_given : Query → List Kind
  kinds_given q = (kinded q).kinds

  -- all that a query names is there, and all expressions and conditions in it have a type and are computed in 128 bits
  abbrev pub Fits : Query → Type 0
  Fits q = IsTrue (kinded q).fits

-- ---- rows

abbrev pub AreAllOfKinds : List Row → List Kind → Type 0
AreAllOfKinds rows kinds = AllByRecursion (λ row. AreOfKinds row kinds) rows

-- two lists of one length whose members belong together
abbrev pub Pairwise : {A B : Type 0} → (A → B → Type 0) → List A → List B → Type 0
Pairwise P [] [] = ⊤
Pairwise P [] (y ∷ ys) = ⊥
Pairwise P (x ∷ xs) [] = ⊥
Pairwise P (x ∷ xs) (y ∷ ys) = P x y × Pairwise P xs ys

-- a relation has columns of these kinds, and rows to match
abbrev pub HoldsKinds : Contents → List Kind → Type 0
HoldsKinds c kinds = (c.width ≡ length kinds) × AreAllOfKinds c.rows kinds

abbrev pub GivesKinds : Answer → List Kind → Type 0
GivesKinds a kinds = (a.width ≡ length kinds) × AreAllOfKinds a.rows kinds

-- what a query gives is of its kinds
abbrev pub GivesItsKinds : List Contents → List (List Kind) → Query → Type 0
GivesItsKinds relations kinds q = GivesKinds (answer relations q) (kinds_given kinds q)

-- none of these values is a number outside BIGINT
abbrev pub AreInRange : List Value → Type 0
AreInRange xs = AllByRecursion (λ x. is_outside x ≡ false) xs

-- the values of the calls over the groups of these rows, and those of the items on these rows
abbrev pub CallsAreInRange : Grouping → List Row → Type 0
CallsAreInRange g rows = AreInRange (tested_calls (Some g) rows)

abbrev pub ItemsAreInRange : List Expr → List Row → Type 0
ItemsAreInRange items rows = AreInRange (flat_map (λ row. row) (selected items rows))

abbrev pub SourceGivesKinds : Source → List Kind → Type 0
SourceGivesKinds s kinds = GivesKinds s.answer kinds

-- ---- programs

abbrev pub kinds_of : Relation → List Kind
kinds_of r = map (λ c. c.kind) r.columns

abbrev pub FirstFits : List (List Kind) → List Kind → List Query → Type 0
FirstFits relations kinds [] = ⊥
FirstFits relations kinds (q ∷ queries) = Fits relations q × (kinds_given relations q ≡ kinds)

-- each view's query fits the relations before it, with the kinds of the view's columns
abbrev pub ProgramFits : List (List Kind) → List Query → List Relation → Type 0
ProgramFits relations queries [] = queries ≡ []
ProgramFits relations queries (r ∷ rs) = by_kind r.kind
    (ProgramFits (relations ++ kinds_of r ∷ []) queries rs)
    (FirstFits relations (kinds_of r) queries × ProgramFits (relations ++ kinds_of r ∷ []) (drop 1 queries) rs)

-- each row of a table is of the kinds of the table's columns
abbrev pub TablesAreOfKinds : Tables → List Relation → Type 0
TablesAreOfKinds tables [] = ⊤
TablesAreOfKinds tables (r ∷ rs) = by_kind r.kind (AreAllOfKinds (first_rows tables) (kinds_of r) × TablesAreOfKinds (drop 1 tables) rs) (TablesAreOfKinds tables rs)

abbrev pub if_view : RelationKind → List Kind → Option (List Kind)
if_view Table kinds = None
if_view (View printed) kinds = Some kinds

-- the kinds of the columns of each view
abbrev pub view_kinds : List Relation → List (List Kind)
view_kinds relations = filter_map (λ r. if_view r.kind (kinds_of r)) relations

-- if the tables hold rows of their kinds and all views can be shown, the rows of each view are of the kinds of its columns
abbrev pub ViewsAreOfKinds : Meant → Tables → Type 0
ViewsAreOfKinds p tables = TablesAreOfKinds tables p.catalog → verdict p tables ≡ None → Pairwise GivesKinds (views p tables) (view_kinds p.catalog)
