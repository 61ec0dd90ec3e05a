-- The names of views by their numbers, and tables without rows.
use Rattle.std.specs.Prelude.{ℕ, List, [], map, slice_get, Option, Some, None}
use Rattle.sq_catalog.specs.declared.relation.Relation.{Relation}
use Rattle.sq_catalog.specs.Sorts.{tables_of, views_of}
use Rattle.sq_typed.specs.Scopes.{Text}
use Rattle.sq_typed.specs.Tables.{Tables}

abbrev pub name_of : Option Relation → Text
name_of None = []
name_of (Some r) = r.name

-- the name of a view, by its number among the views, counted from 0
abbrev pub view_name : List Relation → ℕ → Text
view_name relations n = name_of (slice_get (views_of relations) n)

-- each table without a row
abbrev pub empty_tables : List Relation → Tables
empty_tables relations = map (λ t. []) (tables_of relations)
