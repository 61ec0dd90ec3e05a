-- Lines that speak of the tables of a program.
use Rattle.std.specs.Prelude.{ℕ, List}
use Rattle.sq_catalog.specs.declared.relation.Relation.{Relation}
use Rattle.sq_lines.specs.Fit.{LineFits}
use Rattle.sq_lines.specs.declared.line.Line.{Line}

-- what holds of a line, whatever its number is: the table of its update is there, and its row is of the kinds of that table
abbrev pub Fits : List Relation → Line → Type 0
Fits relations line = (n : ℕ) × LineFits relations n line
