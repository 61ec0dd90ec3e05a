-- A run behind some lines, whatever lines come after them.
use Rattle.std.specs.Prelude.{◌||◌, OnOk, Result, Ok, Err}
use Rattle.std.specs.List.{list_any}
use Rattle.std.specs.Io.KnownBytes.{Appends}
use Rattle.std.proofs.Common.{◌≡◌, ℕ, suc, ◌+◌, ◌^◌, ◌<◌, ◌≤◌, List, [], ◌∷◌, ◌++◌, length, Bool, true, false, Option, refl, sym, ap, subst, ◌∙◌, arith, append-nil, append_assoc, length-append}
use Rattle.std.proofs.lemmas.List.Folds.{list_any-append}
use Rattle.sq_engine.specs.Engines.{State}
use Rattle.sq_lines.specs.Cutting.{Cutting, answer, cut_after, ended, fed, last_line, lines_of, raw_lines}
use Rattle.sq_lines.specs.Lines.{is_commit}
use Rattle.sq_lines.specs.declared.line.Line.{Line}
use Rattle.sq_lines.specs.declared.line.RawLine.{RawLine}
use Rattle.sq_lines.proofs.PieceLemmas.{fed_after, raw_after, raw_last}
use Rattle.sq_lines.proofs.Saying.{raw_lines_say}
use Rattle.sq_typed.specs.Tables.{Tables}
use Rattle.sq_typed.specs.Views.{Meant}
use Rattle.sq_ticks.specs.Judgements.{first_text}
use Rattle.sq_ticks.specs.Lines.{up_to_last}
use Rattle.sq_ticks.specs.Output.{reports_of, texts_from}
use Rattle.sq_compile.specs.Relations.{empty_tables}
use Rattle.sq_ticks.specs.Runs.{From, Goes, IsBehind, IsFar, IsStart, Stopped, StoppedWithin, StopsWithin, brought, ended_lines, said, said_line, still}
use Rattle.sq_ticks.specs.Sums.{tables_now}
use Rattle.sq_ticks.specs.Ticks.{accepted, is_refusal, lines_from, outcome, tables_after, ticks_of}
use Rattle.sq_ticks.specs.declared.run.Run.{Run}
use Rattle.sq_ticks.specs.declared.run.Stop.{Stop}
use Rattle.sq_ticks.specs.declared.run.Stop.TheVariants.{Memory}
use Rattle.sq_ticks.proofs.CutLemmas.{failed_last, passed_last}
use Rattle.sq_ticks.proofs.Going.{Going, going_memory, in_front_none, length-brought, line_stop, tables_now-append, told_more}
use Rattle.sq_ticks.proofs.Reports.{some_ticks, still_commit}

pub on_ok_both : {T E P Q R : Type 0} (r : Result T E) → OnOk r P → OnOk r Q → (P → Q → R) → OnOk r R
on_ok_both (Ok x) a b f = f a b
on_ok_both (Err e) a b f = tt

module _ (p : Meant) (from : From) where
  -- block 0 is told, and no line has come
  pub begun : (now : Option (List ℕ)) (faults : ℕ) (engine : State) (run : Run) → IsStart p engine run → Appends from.taken now (first_text p) → from.faults ≤ faults
      → engine.shards ≡ from.shards → IsBehind p [] from now faults run
  begun now faults engine run start told later shards = record {
    lists = empty_tables p.catalog;
    at = start.stands;
    done = ([], accepted (empty_tables p.catalog)) ∷ [];
    parts = λ more. rw start.lines (rw (in_front_none (ticks_of more) (some_ticks more)) refl);
    whole = refl;
    told = subst (Appends from.taken now) (sym (append-nil (first_text p))) told;
    tables = refl;
    tick = start.tick;
    refused = start.refused;
    later = later;
    shards = start.shards ∙ shards;
    read = start.read;
    few = omega (arith, start.tick);
  }

  -- so far some ticks are told, and for any further lines the others are left
  pub as_going : (seen more : List Line) (now : Option (List ℕ)) (faults : ℕ) (run : Run) (h : IsBehind p seen from now faults run)
      → Going p (reports_of p (seen ++ more)) from.taken now from.faults faults h.lists run (still p h.lists run.lines.items more)
  as_going seen more now faults run h = record {
    done = h.done;
    parts = h.parts more;
    told = h.told;
    tables = h.tables;
    tick = h.tick;
    refused = h.refused;
    later = h.later;
  }

  whole_more : (seen : List Line) (line : Line) (now : Option (List ℕ)) (faults : ℕ) (run : Run) (h : IsBehind p seen from now faults run) (t : Bool) → is_commit line ≡ t
      → h.done ++ brought p h.lists run.lines.items line ≡ reports_of p (up_to_last is_commit (seen ++ line ∷ []))
  whole_more seen line now faults run h true e =
      let moved = tables_after h.lists (outcome p h.lists run.lines.items) in
      sym (ap (reports_of p) (passed_last is_commit seen line e)
      ∙ h.parts (line ∷ [])
      ∙ ap (λ t. h.done ++ t) (still_commit p h.lists moved run.lines.items [] line [] e refl refl ∙ append-nil (brought p h.lists run.lines.items line)))
  whole_more seen line now faults run h false e =
      let none : brought p h.lists run.lines.items line ≡ [] = rw e refl in
      ap (λ t. h.done ++ t) none ∙ append-nil h.done ∙ h.whole ∙ sym (ap (reports_of p) (failed_last is_commit seen line e))

  -- one more line is taken
  pub behind_line : (seen : List Line) (line : Line) (now next : Option (List ℕ)) (faults last : ℕ) (run more : Run) (moved : Tables) (h : IsBehind p seen from now faults run)
      → Goes p h.lists run line moved more → Appends now next (texts_from p run.tick (brought p h.lists run.lines.items line)) → faults ≤ last
      → IsBehind p (seen ++ line ∷ []) from next last more
  behind_line seen line now next faults last run more moved h goes told since =
      let come = brought p h.lists run.lines.items line in
      record {
        lists = moved;
        at = goes.stands;
        done = h.done ++ come;
        parts = λ later. ap (reports_of p) (append_assoc seen (line ∷ []) later) ∙ h.parts (line ∷ later) ∙ ap (λ t. h.done ++ t) (goes.still later)
            ∙ sym (append_assoc h.done come (still p moved more.lines.items later));
        whole = whole_more seen line now faults run h _ refl;
        told = told_more p h.done come run.tick from.taken now next h.tick h.told told;
        tables = goes.tables ∙ ap (λ t. tables_now t come) h.tables ∙ sym (tables_now-append (empty_tables p.catalog) h.done come);
        tick = goes.tick ∙ ap (λ n. n + length come) h.tick ∙ sym (length-append h.done come);
        refused = goes.refused ∙ ap (λ b. b || list_any (λ r. is_refusal r.1) come) h.refused ∙ sym (list_any-append (λ r. is_refusal r.1) h.done come);
        later = omega (arith, h.later);
        shards = goes.shards ∙ h.shards;
        read = goes.read ∙ ap (λ n. n + 1) h.read ∙ sym (length-append seen (line ∷ []));
        few = omega (arith, goes.tick, goes.read, h.few, length-brought p h.lists run.lines.items line);
      }

  -- where it stops
  pub memory_stops : (seen rest : List Line) (now : Option (List ℕ)) (faults : ℕ) (run : Run) → IsBehind p seen from now faults run → StopsWithin p (seen ++ rest) from now faults Memory
  memory_stops seen rest now faults run h more =
      subst (λ ls. StoppedWithin p from.taken now from.faults faults (reports_of p ls) Memory) (sym (append_assoc seen rest more))
      (going_memory p _ _ _ _ _ _ _ _ (as_going seen (rest ++ more) now faults run h))

  pub line_stops : (seen : List Line) (line : Line) (now next : Option (List ℕ)) (faults last : ℕ) (run : Run) (stop : Stop) (h : IsBehind p seen from now faults run) → faults ≤ last
      → Stopped now next faults last (texts_from p run.tick (brought p h.lists run.lines.items line)) stop → StopsWithin p (seen ++ line ∷ []) from next last stop
  line_stops seen line now next faults last run stop h since stopped more =
      subst (λ ls. StoppedWithin p from.taken next from.faults last (reports_of p ls) stop) (sym (append_assoc seen (line ∷ []) more))
      (line_stop p _ _ _ _ _ _ _ h.lists run line more stop (as_going seen (line ∷ more) now faults run h) since stopped)

  pub stops_further : (seen rest all : List Line) (now : Option (List ℕ)) (faults : ℕ) (stop : Stop) → seen ++ rest ≡ all → StopsWithin p seen from now faults stop → StopsWithin p all from now faults stop
  stops_further seen rest all now faults stop is h more =
      subst (λ ls. StoppedWithin p from.taken now from.faults faults (reports_of p ls) stop) (sym (append_assoc seen rest more) ∙ ap (λ ls. ls ++ more) is) (h (rest ++ more))

  pub stops_now : (seen all : List Line) (now : Option (List ℕ)) (faults : ℕ) (stop : Stop) → seen ≡ all → StopsWithin p seen from now faults stop → StoppedWithin p from.taken now from.faults faults (reports_of p all) stop
  stops_now seen all now faults stop is h = subst (λ ls. StoppedWithin p from.taken now from.faults faults (reports_of p ls) stop) (append-nil seen ∙ is) (h [])

  -- behind the last line
  pub going_now : (seen : List Line) (now : Option (List ℕ)) (faults : ℕ) (run : Run) (h : IsBehind p seen from now faults run)
      → Going p (reports_of p seen) from.taken now from.faults faults h.lists run (still p h.lists run.lines.items [])
  going_now seen now faults run h =
      subst (λ ls. Going p (reports_of p ls) from.taken now from.faults faults h.lists run (still p h.lists run.lines.items [])) (append-nil seen) (as_going seen [] now faults run h)

-- ---- what raw lines say
pub said_append : (p : Meant) (xs ys : List RawLine) → said p (xs ++ ys) ≡ said p xs ++ said p ys
said_append p [] ys = refl
said_append p (x ∷ xs) ys = ap (λ ls. said_line p x ∷ ls) (said_append p xs ys)

pub ended_said : (p : Meant) (bytes : List ℕ) → said p (raw_lines 0 (ended [] bytes)) ≡ ended_lines p bytes
ended_said p bytes = raw_lines_say p.catalog 0 (ended [] bytes)

-- a piece brings the lines of its answer
pub piece_brings : (p : Meant) (bytes piece : List ℕ) → ended_lines p (bytes ++ piece) ≡ ended_lines p bytes ++ said p (answer (cut_after bytes) piece)
piece_brings p bytes piece =
    sym (ended_said p (bytes ++ piece)) ∙ ap (said p) (raw_after bytes piece) ∙ said_append p (raw_lines 0 (ended [] bytes)) (answer (cut_after bytes) piece)
    ∙ ap (λ ls. ls ++ said p (answer (cut_after bytes) piece)) (ended_said p bytes)

-- the last line stands behind them
pub last_brings : (p : Meant) (bytes : List ℕ) → lines_from p.catalog 1 (lines_of bytes) ≡ ended_lines p bytes ++ said p (last_line (cut_after bytes))
last_brings p bytes =
    sym (raw_lines_say p.catalog 0 (lines_of bytes)) ∙ ap (said p) (raw_last bytes) ∙ said_append p (raw_lines 0 (ended [] bytes)) (last_line (cut_after bytes))
    ∙ ap (λ ls. ls ++ said p (last_line (cut_after bytes))) (ended_said p bytes)

pub last_said : (p : Meant) (bytes : List ℕ) (cutter : Cutting) (raw : RawLine) → cutter ≡ cut_after bytes → last_line cutter ≡ raw ∷ []
    → ended_lines p bytes ++ said_line p raw ∷ [] ≡ lines_from p.catalog 1 (lines_of bytes)
last_said p bytes cutter raw cut last =
    sym (last_brings p bytes ∙ ap (λ c. ended_lines p bytes ++ said p (last_line c)) (sym cut) ∙ ap (λ ls. ended_lines p bytes ++ said p ls) last)

pub none_said : (p : Meant) (bytes : List ℕ) (cutter : Cutting) → cutter ≡ cut_after bytes → last_line cutter ≡ [] → ended_lines p bytes ≡ lines_from p.catalog 1 (lines_of bytes)
none_said p bytes cutter cut last =
    sym (last_brings p bytes ∙ ap (λ c. ended_lines p bytes ++ said p (last_line c)) (sym cut) ∙ ap (λ ls. ended_lines p bytes ++ said p ls) last ∙ append-nil (ended_lines p bytes))

length-ended_lines : (p : Meant) (n : ℕ) (lines : List (List ℕ)) → length (lines_from p.catalog n lines) ≡ length lines
length-ended_lines p n [] = refl
length-ended_lines p n (line ∷ lines) = ap suc (length-ended_lines p (n + 1) lines)

-- the run has read as many lines as the cutter has handed out
pub read_handed : (p : Meant) (bytes : List ℕ) (from : From) (now : Option (List ℕ)) (faults : ℕ) (run : Run) (cutter : Cutting) → IsFar p bytes from now faults run cutter
    → run.read ≡ cutter.handed
read_handed p bytes from now faults run cutter far = far.behind.read ∙ length-ended_lines p 1 (ended [] bytes) ∙ sym (ap (λ c. c.handed) far.cut)

-- ---- the lines of a piece, one after the other
pub record Along (p : Meant) (all : List Line) (from : From) (now : Option (List ℕ)) (faults : ℕ) (run : Run) (rest : List RawLine) : Type 0 where
  pub seen : List Line
  pub behind : IsBehind p seen from now faults run
  pub left : seen ++ said p rest ≡ all

pub along_begins : (p : Meant) (bytes piece : List ℕ) (from : From) (now : Option (List ℕ)) (faults : ℕ) (run : Run) (cutter : Cutting) (rest : List RawLine)
    → IsFar p bytes from now faults run cutter → rest ≡ answer cutter piece → Along p (ended_lines p (bytes ++ piece)) from now faults run rest
along_begins p bytes piece from now faults run cutter rest far is = record {
  seen = ended_lines p bytes;
  behind = far.behind;
  left = ap (λ rs. ended_lines p bytes ++ said p rs) (is ∙ ap (λ c. answer c piece) far.cut) ∙ sym (piece_brings p bytes piece);
}

pub along_more : (p : Meant) (all : List Line) (from : From) (now next : Option (List ℕ)) (faults last : ℕ) (run more : Run) (raw : RawLine) (rest : List RawLine)
    → (a : Along p all from now faults run (raw ∷ rest)) → IsBehind p (a.seen ++ said_line p raw ∷ []) from next last more → Along p all from next last more rest
along_more p all from now next faults last run more raw rest a behind = record {
  seen = a.seen ++ said_line p raw ∷ [];
  behind = behind;
  left = append_assoc a.seen (said_line p raw ∷ []) (said p rest) ∙ a.left;
}

pub along_ends : (p : Meant) (bytes piece : List ℕ) (from : From) (now : Option (List ℕ)) (faults : ℕ) (run : Run) (cutter fed_cutter : Cutting)
    → Along p (ended_lines p (bytes ++ piece)) from now faults run [] → cutter ≡ cut_after bytes → fed_cutter ≡ fed cutter piece → IsFar p (bytes ++ piece) from now faults run fed_cutter
along_ends p bytes piece from now faults run cutter fed_cutter a cut is = record {
  behind = subst (λ ls. IsBehind p ls from now faults run) (sym (append-nil a.seen) ∙ a.left) a.behind;
  cut = is ∙ ap (λ c. fed c piece) cut ∙ fed_after bytes piece;
}

pub along_stops : (p : Meant) (all : List Line) (from : From) (now next : Option (List ℕ)) (faults last : ℕ) (run : Run) (raw : RawLine) (rest : List RawLine) (stop : Stop)
    → (a : Along p all from now faults run (raw ∷ rest)) → StopsWithin p (a.seen ++ said_line p raw ∷ []) from next last stop → StopsWithin p all from next last stop
along_stops p all from now next faults last run raw rest stop a stops =
    stops_further p from (a.seen ++ said_line p raw ∷ []) (said p rest) all next last stop (append_assoc a.seen (said_line p raw ∷ []) (said p rest) ∙ a.left) stops

-- memory ran out before a line of the piece was taken
pub piece_stops : (p : Meant) (bytes piece : List ℕ) (from : From) (now : Option (List ℕ)) (faults : ℕ) (run : Run) (cutter : Cutting) → IsFar p bytes from now faults run cutter
    → StopsWithin p (ended_lines p (bytes ++ piece)) from now faults Memory
piece_stops p bytes piece from now faults run cutter far =
    subst (λ ls. StopsWithin p ls from now faults Memory) (sym (piece_brings p bytes piece))
    (memory_stops p from (ended_lines p bytes) (said p (answer (cut_after bytes) piece)) now faults run far.behind)

-- ---- how many lines there are
length-raw_lines : (n : ℕ) (lines : List (List ℕ)) → length (raw_lines n lines) ≡ length lines
length-raw_lines n [] = refl
length-raw_lines n (line ∷ lines) = ap suc (length-raw_lines (n + 1) lines)

pub room_for : (before after : Cutting) (piece : List ℕ) (items : List RawLine) (read : ℕ) → items ≡ answer before piece → after ≡ fed before piece → after.handed ≤ before.handed + length piece
    → read ≡ before.handed → before.handed + length piece < 2 ^ 59 → read + length items < 2 ^ 59
room_for before after piece items read are is few same room =
    let many : length items ≡ length (ended before.begun piece) = ap length are ∙ length-raw_lines before.handed (ended before.begun piece) in
    let handed : after.handed ≡ before.handed + length (ended before.begun piece) = ap (λ c. c.handed) is in
    omega (arith, many, handed, few, same, room)

pub along_read : (p : Meant) (all : List Line) (from : From) (now next : Option (List ℕ)) (faults last : ℕ) (run more : Run) (raw : RawLine) (rest : List RawLine)
    → (a : Along p all from now faults run (raw ∷ rest)) → IsBehind p (a.seen ++ said_line p raw ∷ []) from next last more → more.read ≡ run.read + 1
along_read p all from now next faults last run more raw rest a behind =
    behind.read ∙ length-append a.seen (said_line p raw ∷ []) ∙ ap (λ n. n + 1) (sym a.behind.read)
