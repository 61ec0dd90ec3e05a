-- The updates of the lines of a tick.
use Rattle.std.specs.Prelude.{ℕ, Bool, true, false, List, Option, Some, None}
use Rattle.std.specs.List.{filter_map, list_any}
use Rattle.std.specs.declared.result.Result.{Result}
use Rattle.std.specs.declared.result.Result.TheVariants.{Ok, Err}
use Rattle.sq_lines.specs.declared.line.Line.{Line}
use Rattle.sq_lines.specs.declared.line.Line.TheVariants as line
use Rattle.sq_typed.specs.Tables.{Tables}
use Rattle.sq_typed.specs.Views.{Meant, verdict}
use Rattle.sq_typed.specs.declared.update.Update.{Update}
use Rattle.sq_ticks.specs.Ticks.{Outcome, refused, ended}
use Rattle.sq_print.specs.declared.refusal.Refusal.TheVariants.{Absent}

abbrev pub update_of : Line → Option Update
update_of (line.Update u) = Some u
update_of _ = None

abbrev pub updates_of : List Line → List Update
updates_of lines = filter_map update_of lines

abbrev pub is_bad : Line → Bool
is_bad (line.Bad n why) = true
is_bad _ = false

abbrev pub has_bad : List Line → Bool
has_bad lines = list_any is_bad lines

-- what becomes of a tick whose updates leave these tables, or delete a row at a line that is not there
abbrev pub outcome_after : Meant → Result Tables ℕ → Outcome
outcome_after p (Ok tables) = ended p tables (verdict p tables)
outcome_after p (Err line) = refused (Absent line)
