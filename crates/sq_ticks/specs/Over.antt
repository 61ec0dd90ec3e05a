-- An engine beside the lists of rows that it stands for, and the lines of a tick as it takes them.
--     IsOver p lists engine       the engine has started, its circuit stands for the program p, and its tables are the Z-sets of these lists
--     updates_in_front lines      the updates in front of the first bad line
--     first_bad lines             the number of the first bad line
--     outcome_by p bad made       what becomes of a tick with such a bad line, whose updates in front of it make this of the tables
--     HasRoom lists us n          each table has at most n rows with all that the updates put into it
--     IsAccepted p lists e lines delta     a tick of these lines is accepted, and the engine with this change is over the lists after it
use Rattle.std.specs.Prelude.{◌≡◌, ℕ, ◌+◌, ◌≤◌, true, List, [], ◌∷◌, length, Option, Some, None}
use Rattle.std.specs.declared.result.Result.{Result}
use Rattle.std.specs.declared.result.Result.TheVariants.{Ok, Err}
use Rattle.sq_catalog.specs.Sorts.{tables_of}
use Rattle.sq_circuit.specs.Nodes.{Rows}
use Rattle.sq_engine.specs.Admitting.{in_z_sets, inserted}
use Rattle.sq_engine.specs.Engines.{State, moved, views_between, with_changes}
use Rattle.sq_lines.specs.declared.line.Line.{Line}
use Rattle.sq_lines.specs.declared.line.Line.TheVariants.{Update, Commit, Blank, Bad}
use Rattle.sq_plan.specs.Program.{IsPlanOf}
use Rattle.sq_print.specs.Texts.{told_block}
use Rattle.sq_typed.specs.Fit.{TablesAreOfKinds}
use Rattle.sq_typed.specs.Laws.{rows_in}
use Rattle.sq_typed.specs.Tables.{Tables}
use Rattle.sq_typed.specs.Views.{Meant, shown, verdict}
use Rattle.sq_typed.specs.declared.update.Update as update
use Rattle.sq_ticks.specs.Texts.{change_text}
use Rattle.sq_ticks.specs.Ticks.{Outcome, accepted, ended, outcome, refused}
use Rattle.sq_ticks.specs.Updates.{updates_of}
use Rattle.sq_print.specs.declared.refusal.Refusal.TheVariants.{Absent, Malformed}

pub record IsOver (p : Meant) (lists : Tables) (engine : State) : Type 0 where
  pub plan : IsPlanOf p engine.circuit
  pub started : engine.started ≡ true
  pub many : length lists ≡ length (tables_of p.catalog)
  pub kinds : TablesAreOfKinds lists p.catalog
  pub tables : engine.tables ≡ in_z_sets lists

abbrev pub updates_in_front : List Line → List update.Update
updates_in_front [] = []
updates_in_front (Update u ∷ lines) = u ∷ updates_in_front lines
updates_in_front (Commit ∷ lines) = updates_in_front lines
updates_in_front (Blank ∷ lines) = updates_in_front lines
updates_in_front (Bad line why ∷ lines) = []

abbrev pub first_bad : List Line → Option ℕ
first_bad [] = None
first_bad (Update u ∷ lines) = first_bad lines
first_bad (Commit ∷ lines) = first_bad lines
first_bad (Blank ∷ lines) = first_bad lines
first_bad (Bad line why ∷ lines) = Some line

abbrev pub ended_by : Meant → Option ℕ → Tables → Outcome
ended_by p None tables = ended p tables (verdict p tables)
ended_by p (Some line) tables = refused (Malformed line)

abbrev pub outcome_by : Meant → Option ℕ → Result Tables ℕ → Outcome
outcome_by p bad (Ok tables) = ended_by p bad tables
outcome_by p bad (Err line) = refused (Absent line)

abbrev pub HasRoom : Tables → List update.Update → ℕ → Type 0
HasRoom lists us n = (t : ℕ) → length (rows_in lists t) + inserted t us ≤ n

pub record IsAccepted (p : Meant) (lists : Tables) (e : State) (lines : List Line) (delta : List Rows) : Type 0 where
  pub now : Tables
  pub outcome : outcome p lists lines ≡ accepted now
  pub over : IsOver p now (moved e delta)
  pub text : (tick : ℕ) → told_block p.catalog tick (views_between e.circuit e.tables (with_changes e.tables delta)) ≡ change_text p.catalog (shown p lists) (shown p now) tick
  pub room : (n : ℕ) → HasRoom lists (updates_of lines) n → HasRoom now [] n
