-- The tables among the relations of a program, by name and by number.
use Rattle.std.specs.Prelude.{ℕ, List, bytes_eq, Option, None, Some}
use Rattle.std.specs.List.{enumerate_from, find}
use Rattle.sq_catalog.specs.declared.relation.Relation.{Relation}
use Rattle.sq_catalog.specs.Sorts.{tables_of}
use Rattle.serde_json.specs.Data.{Data, string}

-- a table with its number among the tables, which counts from 0
abbrev pub Numbered : Type 0
Numbered = ℕ × Relation

-- the table with this name
abbrev pub table_named : List ℕ → List Relation → Option Numbered
table_named name relations = find (λ t. bytes_eq name t.1.name) (enumerate_from 0 (tables_of relations))

-- the table that a JSON value names, if it is a text
abbrev pub table_meant : List Relation → Option Data → Option Numbered
table_meant relations (Some (string name)) = table_named name relations
table_meant relations _ = None
