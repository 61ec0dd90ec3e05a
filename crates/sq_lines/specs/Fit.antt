-- What an update that a line says fits.
use Rattle.std.specs.Prelude.{◌≡◌, ◌<◌, ℕ, List, length, slice_get, Some, ⊤}
use Rattle.sq_catalog.specs.declared.relation.Relation.{Relation}
use Rattle.sq_expr.specs.Kinds.{AreOfKinds}
use Rattle.sq_typed.specs.Fit.{kinds_of}
use Rattle.sq_typed.specs.declared.update.Update.{Update}
use Rattle.sq_lines.specs.declared.line.Line.{Line}
use Rattle.sq_lines.specs.declared.line.Line.TheVariants as line
use Rattle.sq_catalog.specs.Sorts.{tables_of}

-- it has the line's number, its table is one of the tables, and its row is of the kinds of that table's columns
pub record UpdateFits (relations : List Relation) (n : ℕ) (u : Update) : Type 0 where
  pub line_is : u.line ≡ n
  pub is_table : u.table < length (tables_of relations)
  pub table : Relation
  pub found : slice_get (tables_of relations) u.table ≡ Some table
  pub of_kinds : AreOfKinds u.row (kinds_of table)

-- what holds of the line with number n
abbrev pub LineFits : List Relation → ℕ → Line → Type 0
LineFits relations n (line.Update u) = UpdateFits relations n u
LineFits relations n line.Commit = ⊤
LineFits relations n line.Blank = ⊤
LineFits relations n (line.Bad m why) = m ≡ n
