-- Words of the laws of queries.
use Rattle.std.specs.Prelude.{◌≡◌, ◌≤◌, ℕ, ◌+◌, ◌==◌, ◌&&◌, not, false, List, [], ◌∷◌, ◌++◌, length, map, drop, count_by, get_or, Some, ⊤}
use Rattle.std.specs.Ordering.{is_eq}
use Rattle.std.specs.declared.result.Result.TheVariants.{Ok}
use Rattle.sq_value.specs.Count.{count}
use Rattle.sq_value.specs.Order.{row_cmp}
use Rattle.sq_ast.specs.declared.query.SetOp.{SetOp}
use Rattle.sq_expr.specs.Columns.{cond_columns, width_of}
use Rattle.sq_expr.specs.Kinds.{AreOfKinds}
use Rattle.sq_expr.specs.declared.cond.Cond.{Cond}
use Rattle.sq_expr.specs.declared.expr.Kind.{Kind}
use Rattle.sq_typed.specs.declared.update.Update.{Update}
use Rattle.sq_catalog.specs.declared.relation.Relation.{Relation}
use Rattle.sq_catalog.specs.declared.relation.RelationKind.{RelationKind}
use Rattle.sq_catalog.specs.declared.relation.RelationKind.TheVariants.{Table, View}
use Rattle.sq_typed.specs.declared.query.Query.{Query}
use Rattle.sq_typed.specs.Queries.{Contents, chain_answer, set_rows}
use Rattle.sq_typed.specs.Relations.{columns_given}
use Rattle.sq_typed.specs.Views.{first_rows}
use Rattle.sq_typed.specs.Tables.{Tables, after}
use Rattle.std.specs.List.{AllByRecursion}
use Rattle.sq_typed.specs.From.{Row, Answer, Source, stages, widths_of}

-- each of these rows has so many values
abbrev pub AreOfWidth : ℕ → List Row → Type 0
AreOfWidth width rows = AllByRecursion (λ row. length row ≡ width) rows

-- each row of an answer has the answer's width
abbrev pub HasItsWidth : Answer → Type 0
HasItsWidth a = AreOfWidth a.width a.rows

-- the sum of some numbers of columns
abbrev pub together : List ℕ → ℕ
together [] = 0
together (w ∷ ws) = w + together ws

-- the number of columns of all sources
abbrev pub width_of_all : List Source → ℕ
width_of_all sources = together (widths_of sources)

-- the rows that go on from the last source, F_k, from the pairs of J_k and F_k; before the first source the rows given
abbrev pub last_of : List Row → List (List Row × List Row) → List Row
last_of before [] = before
last_of before (stage ∷ stages) = last_of stage.1 stages

-- the rows of each source have as many values as the source has columns
abbrev pub HaveTheirWidths : List Source → Type 0
HaveTheirWidths sources = AllByRecursion (λ s. HasItsWidth s.answer) sources

-- a condition names no columns but those of the sources
abbrev pub NamesThese : List Source → Cond → Type 0
NamesThese sources c = width_of (cond_columns c) ≤ width_of_all sources

-- the rows that go on from the last source, if each member applies as soon as the sources whose columns it names are joined
abbrev pub kept_early : List Cond → List Source → List Row
kept_early conds sources = last_of ([] ∷ []) (stages conds sources)

-- what a chain of set operations gives
abbrev pub set_chain : Answer → List (SetOp × Answer) → Answer
set_chain first rest = chain_answer (λ rows s. set_rows s.0 rows s.1.rows) (λ s. s.1) first rest

-- the rows of each relation have as many values as the relation has columns
abbrev pub HoldTheirWidths : List Contents → Type 0
HoldTheirWidths relations = AllByRecursion (λ c. AreOfWidth c.width c.rows) relations

-- a query gives so many columns over these relations
abbrev pub HasColumns : List Contents → Query → ℕ → Type 0
HasColumns relations q w = columns_given (map (λ c. c.width) relations) q ≡ Some w

-- two lists of relations are the same at a number
abbrev pub AgreeAt : List Contents → List Contents → ℕ → Type 0
AgreeAt before now n = get_or before n no_contents ≡ get_or now n no_contents
  where
    no_contents : Contents
    no_contents = record { width = 0; rows = [] }

-- the number of updates that put this row into the table with this number, and of those that take it away
abbrev pub inserts : ℕ → Row → List Update → ℕ
inserts table row updates = count_by (λ u. u.insert && ((u.table == table) && is_eq (row_cmp row u.row))) updates

abbrev pub deletes : ℕ → Row → List Update → ℕ
deletes table row updates = count_by (λ u. not u.insert && ((u.table == table) && is_eq (row_cmp row u.row))) updates

-- the updates can be made in order, and lead from these tables to those
abbrev pub LeadTo : Tables → List Update → Tables → Type 0
LeadTo tables updates now = after tables updates ≡ Ok now

-- the rows of a table
abbrev pub rows_in : Tables → ℕ → List Row
rows_in tables table = get_or tables table []

-- how often a table holds a row
abbrev pub held : Tables → ℕ → Row → ℕ
held tables table row = count row (rows_in tables table)

-- the rows of each table are of the table's kinds
abbrev pub HoldKinds : (ℕ → List Kind) → Tables → Type 0
HoldKinds kinds tables = (n : ℕ) → AllByRecursion (λ r. AreOfKinds r (kinds n)) (rows_in tables n)

-- the updates bring rows of the kinds of their tables
abbrev pub BringKinds : (ℕ → List Kind) → List Update → Type 0
BringKinds kinds updates = AllByRecursion (λ u. AreOfKinds u.row (kinds u.table)) updates

-- the first update that cannot be made, with its line: those before it are made, and it deletes a row that its table does
-- not hold then
pub record FirstAbsent (tables : Tables) (updates : List Update) (at : ℕ) : Type 0 where
  pub done : List Update
  pub update : Update
  pub later : List Update
  pub parts : updates ≡ done ++ update ∷ later
  pub mid : Tables
  pub made : after tables done ≡ Ok mid
  pub line : update.line ≡ at
  pub deletes : update.insert ≡ false
  pub none : count update.row (rows_in mid update.table) ≡ 0

-- ---- programs

abbrev pub by_kind : RelationKind → Type 0 → Type 0 → Type 0
by_kind Table of_table of_view = of_table
by_kind (View printed) of_table of_view = of_view

-- the first of some queries gives so many columns over relations with these
abbrev pub FirstGives : List ℕ → ℕ → List Query → Type 0
FirstGives widths width [] = ⊥
FirstGives widths width (q ∷ queries) = columns_given widths q ≡ Some width

-- each view's query gives as many columns as the view has, where the relations before these have so many columns each
abbrev pub QueriesFit : List ℕ → List Query → List Relation → Type 0
QueriesFit widths queries [] = ⊤
QueriesFit widths queries (r ∷ rs) = by_kind r.kind
    (QueriesFit (widths ++ length r.columns ∷ []) queries rs)
    (FirstGives widths (length r.columns) queries × QueriesFit (widths ++ length r.columns ∷ []) (drop 1 queries) rs)

-- each table's rows have as many values as the table has columns
abbrev pub TablesFit : Tables → List Relation → Type 0
TablesFit tables [] = ⊤
TablesFit tables (r ∷ rs) = by_kind r.kind (AreOfWidth (length r.columns) (first_rows tables) × TablesFit (drop 1 tables) rs) (TablesFit tables rs)
