-- The views of a program over its tables.
--     Meant        a catalogue and the query of each view.       views p tables      what each view gives
--     verdict      the first view that cannot be shown.        shown p tables      the rows of each view
use Rattle.std.specs.Prelude.{ℕ, List, [], ◌∷◌, ◌++◌, fold, length, map, drop, position, Option, Some, None}
use Rattle.std.specs.List.{slice_get}
use Rattle.sq_catalog.specs.declared.relation.Relation.{Relation}
use Rattle.sq_catalog.specs.declared.relation.RelationKind.{RelationKind}
use Rattle.sq_catalog.specs.declared.relation.RelationKind.TheVariants.{Table, View}
use Rattle.sq_typed.specs.declared.query.Query.{Query}
use Rattle.sq_typed.specs.From.{Row, Answer}
use Rattle.sq_typed.specs.Queries.{Contents, answer, no_answer, has_range_fault}
use Rattle.sq_typed.specs.Tables.{Tables}

-- the catalogue of a program, and the query of each view in order of creation
pub record Meant : Type 0 where
  pub catalog : List Relation
  pub queries : List Query

-- how far the relations have been gone through: what those before hold, what the views among them give, and the tables and
-- queries that are left
pub record Standing : Type 0 where
  pub contents : List Contents
  pub given : List Answer
  pub tables : Tables
  pub queries : List Query

abbrev pub first_rows : Tables → List Row
first_rows [] = []
first_rows (rows ∷ tables) = rows

abbrev pub first_answer : List Contents → List Query → Answer
first_answer relations [] = no_answer
first_answer relations (q ∷ queries) = answer relations q

abbrev pub with_table : ℕ → Standing → Standing
with_table width s = record {
  contents = s.contents ++ record { width = width; rows = first_rows s.tables } ∷ [];
  given = s.given;
  tables = drop 1 s.tables;
  queries = s.queries;
}

abbrev pub with_view : Answer → Standing → Standing
with_view a s = record {
  contents = s.contents ++ record { width = a.width; rows = a.rows } ∷ [];
  given = s.given ++ a ∷ [];
  tables = s.tables;
  queries = drop 1 s.queries;
}

-- a table takes the rows of the next table, and a view gives what the next query gives over the relations before it
abbrev pub with_relation : RelationKind → ℕ → Standing → Standing
with_relation Table width s = with_table width s
with_relation (View printed) width s = with_view (first_answer s.contents s.queries) s

abbrev pub standing : Meant → Tables → Standing
standing p tables = fold (λ s r. with_relation r.kind (length r.columns) s) (record { contents = []; given = []; tables = tables; queries = p.queries }) p.catalog

-- what each view gives over the tables, in order of creation
unfoldable pub views : Meant → Tables → List Answer
views p tables = (standing p tables).given

-- the rows of each view over the tables, in order of creation
abbrev pub shown : Meant → Tables → List (List Row)
shown p tables = map (λ a. a.rows) (views p tables)

-- the rows of a view
abbrev pub view_rows : Meant → Tables → ℕ → List Row
view_rows p tables n = rows_of (slice_get (views p tables) n)
  where
    rows_of : Option Answer → List Row
    rows_of None = []
    rows_of (Some a) = a.rows

-- the first view, counted from 0 among the views, that has a place of more than 2^61 rows or a number outside BIGINT
unfoldable pub verdict : Meant → Tables → Option ℕ
verdict p tables = position has_range_fault (views p tables)
