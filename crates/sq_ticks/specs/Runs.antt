-- Where a run of ticks stands, and what is still to be told.
--     Stands p lists n engine lines    the engine stands for these lists, and takes these lines of a tick
--     IsPlayed                         what became of a tick, in the engine and in the lists
--     still, brought                   the ticks that are to come, and those that a line brings
--     IsStart, Goes, IsClosed, IsEnded     a run at its start, behind a line, behind a tick, and at its end
--     IsLeft p rs shards engine        the engine that these ticks leave
--     IsBehind p seen from out run     a run behind these lines, whatever lines come after them
--     IsFar p bytes from out run cutter     a run and a cutter behind these bytes of change lines
--     Stopped, StoppedWithin           what a sink took when a run stopped
use Rattle.std.specs.Prelude.{◌≡◌, ℕ, ◌+◌, ◌≤◌, Bool, true, false, List, [], ◌∷◌, ◌++◌, ◌||◌, length, map, take, if◌then◌else◌, Option, Some, None}
use Rattle.std.specs.List.{AllByRecursion, list_any}
use Rattle.std.specs.Io.KnownBytes.{Appends, Keeps}
use Rattle.sq_base.specs.Causes.{Rose}
use Rattle.sq_catalog.specs.declared.relation.Relation.{Relation}
use Rattle.sq_circuit.specs.Circuits.{verdict}
use Rattle.sq_circuit.specs.Nodes.{Rows}
use Rattle.sq_engine.specs.Engines.{State, moved, views_between, with_changes}
use Rattle.sq_lines.specs.Cutting.{Cutting, cut_after, ended}
use Rattle.sq_lines.specs.Lines.{decoded, is_commit}
use Rattle.sq_lines.specs.declared.line.RawLine.{RawLine}
use Rattle.sq_lines.specs.declared.line.Line.{Line}
use Rattle.sq_print.specs.Texts.{told_block, told_refusal}
use Rattle.sq_print.specs.declared.refusal.Refusal.TheVariants.{Range}
use Rattle.sq_typed.specs.Tables.{Tables}
use Rattle.sq_typed.specs.Views.{Meant, shown}
use Rattle.sq_ticks.specs.Fits.{Fits}
use Rattle.sq_ticks.specs.Output.{reports_of, texts_from}
use Rattle.sq_ticks.specs.Lines.{up_to_last}
use Rattle.sq_ticks.specs.Over.{HasRoom, IsOver}
use Rattle.sq_compile.specs.Relations.{empty_tables, view_name}
use Rattle.sq_ticks.specs.Sums.{tables_now}
use Rattle.sq_ticks.specs.Texts.{change_text, tick_text}
use Rattle.sq_ticks.specs.Ticks.{Report, accepted, refused, is_refusal, lines_from, outcome, reports_from, tables_after, ticks_of}
use Rattle.sq_ticks.specs.Updates.{updates_of}
use Rattle.sq_ticks.specs.declared.play.Played.{Played}
use Rattle.sq_ticks.specs.declared.run.Run.{Run}
use Rattle.sq_ticks.specs.declared.run.Stop.{Stop}
use Rattle.sq_ticks.specs.declared.run.Stop.TheVariants.{Memory, Read, TooLong, Write}
use Rattle.sq_ticks.specs.declared.tick.Outcome.{Outcome}
use Rattle.sq_ticks.specs.declared.tick.Outcome.TheVariants.{Accepted, Refused}

-- ---- a tick

-- an engine that stands for lists of the tables' rows, and lines that speak of its tables; with the lines no table has more than n rows
pub record Stands (p : Meant) (lists : Tables) (n : ℕ) (engine : State) (lines : List Line) : Type 0 where
  pub over : IsOver p lists engine
  pub fit : AllByRecursion (Fits p.catalog) lines
  pub room : HasRoom lists (updates_of lines) n

-- an accepted tick leaves the engine over its tables, and its changes are told as those of the lists of the views
pub record IsMade (p : Meant) (lists : Tables) (n : ℕ) (lines : List Line) (changes : List Rows) (after : State) : Type 0 where
  pub now : Tables
  pub outcome : outcome p lists lines ≡ accepted now
  pub stands : Stands p now n after []
  pub told : (tick : ℕ) → told_block p.catalog tick changes ≡ change_text p.catalog (shown p lists) (shown p now) tick

-- a refused tick leaves the engine as it was
abbrev pub IsPlayed : Meant → Tables → ℕ → State → List Line → Outcome → State → Type 0
IsPlayed p lists n before lines (Accepted changes) after = IsMade p lists n lines changes.views.items after × (after.shards ≡ before.shards)
IsPlayed p lists n before lines (Refused why) after = (outcome p lists lines ≡ refused why) × (after ≡ before)

-- a tick that was admitted with these changes, by what the engine says of it
abbrev pub IsEndedBy : Meant → State → List Rows → Outcome → State → Type 0
IsEndedBy p before delta (Accepted changes) after = (changes.views.items ≡ views_between before.circuit before.tables (with_changes before.tables delta))
    × (after ≡ moved before delta) × (verdict before.circuit (with_changes before.tables delta) ≡ None)
IsEndedBy p before delta (Refused why) after = (view : ℕ) × (verdict before.circuit (with_changes before.tables delta) ≡ Some view)
    × (why ≡ Range (view_name p.catalog view)) × (after ≡ before)

-- what is printed of a tick
abbrev pub told_outcome : List Relation → ℕ → Outcome → List ℕ
told_outcome relations tick (Accepted changes) = told_block relations tick changes.views.items
told_outcome relations tick (Refused why) = told_refusal tick why

abbrev pub refuses : Outcome → Bool
refuses (Accepted changes) = false
refuses (Refused why) = true

-- ---- what is to come

-- lines in front of the first of some ticks
abbrev pub in_front : List Line → List (List Line) → List (List Line)
in_front lines [] = lines ∷ []
in_front lines (tick ∷ ticks) = (lines ++ tick) ∷ ticks

-- the ticks that are still to come if these lines wait and those later ones are left
abbrev pub still : Meant → Tables → List Line → List Line → List Report
still p lists waiting later = reports_from p lists (in_front waiting (ticks_of later))

-- the ticks that a line brings: one if it is a commit line
abbrev pub brought : Meant → Tables → List Line → Line → List Report
brought p lists waiting line = if is_commit line then (shown p lists, outcome p lists waiting) ∷ [] else []

-- ---- a run

-- the run stands for these lists
abbrev pub IsAt : Meant → Tables → Run → Type 0
IsAt p lists run = Stands p lists run.read run.engine run.lines.items

-- what a line brings in texts, and what the tick of the lines that wait would
abbrev pub line_text : Meant → Tables → Run → Line → List ℕ
line_text p lists run line = texts_from p run.tick (brought p lists run.lines.items line)

abbrev pub waiting_text : Meant → Tables → Run → List ℕ
waiting_text p lists run = tick_text p run.tick (shown p lists) (outcome p lists run.lines.items)

-- what is left to tell if no line is left
abbrev pub last_text : Meant → Tables → Run → List ℕ
last_text p lists run = texts_from p run.tick (still p lists run.lines.items [])

-- nothing was read, and block 0 is told
pub record IsStart (p : Meant) (engine : State) (run : Run) : Type 0 where
  pub stands : IsAt p (empty_tables p.catalog) run
  pub shards : run.engine.shards ≡ engine.shards
  pub lines : run.lines.items ≡ []
  pub read : run.read ≡ 0
  pub tick : run.tick ≡ 1
  pub refused : run.refused ≡ false

-- one more line was taken
pub record Goes (p : Meant) (lists : Tables) (before : Run) (line : Line) (now : Tables) (after : Run) : Type 0 where
  pub stands : IsAt p now after
  pub still : (later : List Line) → still p lists before.lines.items (line ∷ later) ≡ brought p lists before.lines.items line ++ still p now after.lines.items later
  pub tables : now ≡ tables_now lists (brought p lists before.lines.items line)
  pub shards : after.engine.shards ≡ before.engine.shards
  pub read : after.read ≡ before.read + 1
  pub tick : after.tick ≡ before.tick + length (brought p lists before.lines.items line)
  pub refused : after.refused ≡ (before.refused || list_any (λ r. is_refusal r.1) (brought p lists before.lines.items line))

-- the next tick begins
pub record IsClosed (p : Meant) (lists : Tables) (before : Run) (now : Tables) (after : Run) : Type 0 where
  pub stands : IsAt p now after
  pub tables : now ≡ tables_after lists (outcome p lists before.lines.items)
  pub shards : after.engine.shards ≡ before.engine.shards
  pub lines : after.lines.items ≡ []
  pub read : after.read ≡ before.read
  pub tick : after.tick ≡ before.tick + 1
  pub refused : after.refused ≡ (before.refused || is_refusal (outcome p lists before.lines.items))

-- no line is left
pub record IsEnded (p : Meant) (lists : Tables) (run : Run) (played : Played) : Type 0 where
  pub engine : played.engine ≡ run.engine
  pub refused : played.refused ≡ (run.refused || list_any (λ r. is_refusal r.1) (still p lists run.lines.items []))

-- the engine that these ticks leave, with so many shards
pub record IsLeft (p : Meant) (rs : List Report) (count : ℕ) (engine : State) : Type 0 where
  pub over : IsOver p (tables_now (empty_tables p.catalog) rs) engine
  pub shards : engine.shards ≡ count

-- ---- lines as they come

abbrev pub said_line : Meant → RawLine → Line
said_line p raw = decoded p.catalog raw.number raw.bytes

abbrev pub said : Meant → List RawLine → List Line
said p lines = map (said_line p) lines

-- what a sink for the output has taken, and how often it has failed; with the number of shards
pub record From : Type 0 where
  pub shards : ℕ
  pub taken : Option (List ℕ)
  pub faults : ℕ

-- What was told is what the whole ticks so far bring, and for any further lines the rest is still to come.
pub record IsBehind (p : Meant) (seen : List Line) (from : From) (now : Option (List ℕ)) (faults : ℕ) (run : Run) : Type 0 where
  pub lists : Tables
  pub at : IsAt p lists run
  pub done : List Report
  pub parts : (more : List Line) → reports_of p (seen ++ more) ≡ done ++ still p lists run.lines.items more
  pub whole : done ≡ reports_of p (up_to_last is_commit seen)
  pub told : Appends from.taken now (texts_from p 0 done)
  pub tables : lists ≡ tables_now (empty_tables p.catalog) done
  pub tick : run.tick ≡ length done
  pub refused : run.refused ≡ list_any (λ r. is_refusal r.1) done
  pub later : from.faults ≤ faults
  pub shards : run.engine.shards ≡ from.shards
  pub read : run.read ≡ length seen
  pub few : run.tick ≤ run.read + 1

-- the lines whose line end is among these bytes
abbrev pub ended_lines : Meant → List ℕ → List Line
ended_lines p bytes = lines_from p.catalog 1 (ended [] bytes)

pub record IsFar (p : Meant) (bytes : List ℕ) (from : From) (now : Option (List ℕ)) (faults : ℕ) (run : Run) (cutter : Cutting) : Type 0 where
  pub behind : IsBehind p (ended_lines p bytes) from now faults run
  pub cut : cutter ≡ cut_after bytes

-- ---- where it stops

-- What a sink took when the call that was to hand it a text stopped: nothing if memory ran out, and a prefix if a write failed,
-- whose count of faults rose.
abbrev pub Stopped : Option (List ℕ) → Option (List ℕ) → ℕ → ℕ → List ℕ → Stop → Type 0
Stopped taken now before after text Memory = Keeps taken now
Stopped taken now before after text Write = Rose before after × ((n : ℕ) × (n ≤ length text) × Appends taken now (take n text))
Stopped taken now before after text Read = ⊥
Stopped taken now before after text TooLong = ⊥

-- What a sink took when a run stopped: the texts of the first k ticks, each whole, if memory ran out, and a prefix of all texts
-- if a write failed, whose count of faults rose.
abbrev pub StoppedWithin : Meant → Option (List ℕ) → Option (List ℕ) → ℕ → ℕ → List Report → Stop → Type 0
StoppedWithin p taken now before after reports Memory = (k : ℕ) × Appends taken now (texts_from p 0 (take k reports))
StoppedWithin p taken now before after reports Write =
    Rose before after × ((n : ℕ) × (n ≤ length (texts_from p 0 reports)) × Appends taken now (take n (texts_from p 0 reports)))
StoppedWithin p taken now before after reports Read = ⊥
StoppedWithin p taken now before after reports TooLong = ⊥

-- the run stopped within what these lines and any further ones bring
abbrev pub StopsWithin : Meant → List Line → From → Option (List ℕ) → ℕ → Stop → Type 0
StopsWithin p seen from now faults stop = (more : List Line) → StoppedWithin p from.taken now from.faults faults (reports_of p (seen ++ more)) stop
