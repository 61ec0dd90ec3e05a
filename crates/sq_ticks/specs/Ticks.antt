-- What ticks of change lines do to the tables of a program.
use Rattle.std.specs.Prelude.{ℕ, Bool, true, false, List, [], ◌∷◌, map, if◌then◌else◌, Option, Some, None}
use Rattle.std.specs.List.{list_all, slice_split, enumerate_from}
use Rattle.sq_catalog.specs.declared.relation.Relation.{Relation}
use Rattle.sq_lines.specs.Lines.{decoded, is_blank, is_commit}
use Rattle.sq_lines.specs.declared.line.Line.{Line}
use Rattle.sq_lines.specs.declared.line.Line.TheVariants.{Update, Commit, Blank, Bad}
use Rattle.sq_typed.specs.Views.{shown}
use Rattle.sq_typed.specs.From.{Row}
use Rattle.sq_typed.specs.Tables.{Tables, at_table, changed_rows}
use Rattle.sq_typed.specs.Views.{Meant, verdict}
use Rattle.sq_compile.specs.Relations.{view_name}
use Rattle.sq_print.specs.declared.refusal.Refusal.{Refusal}
use Rattle.sq_print.specs.declared.refusal.Refusal.TheVariants.{Malformed, Absent, Range, Unfinished}

-- what became of a tick: the tables after it, or why it is refused
pub data Outcome : Type 0 where
  accepted : Tables → Outcome
  refused : Refusal → Outcome

-- the end of a tick: these tables stand unless a view is out of range over them
abbrev pub ended : Meant → Tables → Option ℕ → Outcome
ended p tables None = accepted tables
ended p tables (Some view) = refused (Range (view_name p.catalog view))

abbrev pub after_update : ℕ → (Tables → Outcome) → Option Tables → Outcome
after_update line next None = refused (Absent line)
after_update line next (Some tables) = next tables

-- The lines are gone through in order. The first that is bad, or that is a delete whose row is not there, refuses the tick;
-- then the first view that is out of range over the tables after it does.
abbrev pub outcome : Meant → Tables → List Line → Outcome
outcome p tables [] = ended p tables (verdict p tables)
outcome p tables (Update u ∷ lines) = after_update u.line (λ now. outcome p now lines) (at_table (changed_rows u) u.table tables)
outcome p tables (Commit ∷ lines) = outcome p tables lines
outcome p tables (Blank ∷ lines) = outcome p tables lines
outcome p tables (Bad line why ∷ lines) = refused (Malformed line)

abbrev pub is_refusal : Outcome → Bool
is_refusal (accepted now) = false
is_refusal (refused why) = true

-- a refused tick leaves the tables as they were
abbrev pub tables_after : Tables → Outcome → Tables
tables_after before (accepted now) = now
tables_after before (refused why) = before

-- what some lines say, the first of them with this number
abbrev pub lines_from : List Relation → ℕ → List (List ℕ) → List Line
lines_from relations n lines = map (λ l. decoded relations l.0 l.1) (enumerate_from n lines)

-- the ticks of the lines: each is the lines up to a commit line, and the last the lines after the last one
abbrev pub ticks_of : List Line → List (List Line)
ticks_of lines = slice_split is_commit lines

-- a tick: the rows of each view before it, and what became of it
abbrev pub Report : Type 0
Report = List (List Row) × Outcome

-- The ticks in order, from these tables on. The lines after the last commit line are an unfinished tick, unless all of
-- them are blank.
abbrev pub reports_from : Meant → Tables → List (List Line) → List Report
reports_from p tables [] = []
reports_from p tables (last ∷ []) = if list_all is_blank last then [] else (shown p tables, refused Unfinished) ∷ []
reports_from p tables (tick ∷ next ∷ ticks) =
    (shown p tables, outcome p tables tick) ∷ reports_from p (tables_after tables (outcome p tables tick)) (next ∷ ticks)
