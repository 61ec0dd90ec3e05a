-- What playing change lines to their end leaves, or to where it stopped. Some first bytes of them were there before.
--     IsPlayedOut      all lines were read and played
--     Halts            where it stopped before that, and what was told until then
--     PlaysOut, PlayHalts      the same of a judged program, by what the source and the sink tell
--     WhereFar, WhereBehind    for all bytes, or lines, behind which a run is
--     with_line        lines, and what one more says
--     StopsFrom, StopsFar      a run that stopped within what some ticks, or the lines of some bytes and any further ones, bring
use Rattle.std.specs.Prelude.{◌≡◌, ℕ, ◌+◌, ◌≤◌, List, [], ◌∷◌, ◌++◌, length, Option}
use Rattle.std.specs.List.{list_any}
use Rattle.std.specs.Io.KnownBytes.{Appends, Consumes, IsAtEnd}
use Rattle.sq_base.specs.Causes.{Rose}
use Rattle.sq_lines.specs.Cutting.{Cutting, ended, lines_of}
use Rattle.sq_lines.specs.Lines.{says_commit}
use Rattle.sq_lines.specs.declared.line.Line.{Line}
use Rattle.sq_lines.specs.declared.line.RawLine.{RawLine}
use Rattle.sq_typed.specs.Views.{Meant}
use Rattle.sq_ticks.specs.Lines.{up_to_last}
use Rattle.sq_ticks.specs.Output.{reports, texts_from}
use Rattle.sq_ticks.specs.Runs.{From, IsBehind, IsFar, IsLeft, StoppedWithin, StopsWithin, ended_lines, said_line}
use Rattle.sq_ticks.specs.Seen.{Seen, seen}
use Rattle.sq_ticks.specs.Ticks.{Report, is_refusal}
use Rattle.sq_ticks.specs.declared.judge.Judged.{Judged}
use Rattle.sq_ticks.specs.declared.play.Played.{Played}
use Rattle.sq_ticks.specs.declared.run.Run.{Run}
use Rattle.sq_ticks.specs.declared.run.Stop.{Stop}
use Rattle.sq_ticks.specs.declared.run.Stop.TheVariants.{Memory, Read, TooLong, Write}

-- so many bytes were taken before, and at most `limit` may be
pub record IsPlayedOut (p : Meant) (shards limit taken : ℕ) (first : List ℕ) (source source_now out out_now : Seen) (played : Played) : Type 0 where
  pub rest : List ℕ
  pub given : Consumes source.bytes source_now.bytes rest
  pub to_end : IsAtEnd source_now.bytes
  pub within : taken + length rest ≤ limit
  pub refused : played.refused ≡ list_any (λ r. is_refusal r.1) (reports p (lines_of (first ++ rest)))
  pub engine : IsLeft p (reports p (lines_of (first ++ rest))) shards played.engine
  pub told : Appends out.bytes out_now.bytes (texts_from p 0 (reports p (lines_of (first ++ rest))))

-- the ticks whose commit line has its line end among these bytes
abbrev pub whole_reports : Meant → List ℕ → List Report
whole_reports p bytes = reports p (up_to_last says_commit (ended [] bytes))

abbrev pub HaltsAt : Meant → (limit count : ℕ) → (bytes beyond : List ℕ) → (source source_now out out_now : Seen) → Stop → Type 0
HaltsAt p limit count bytes beyond source source_now out out_now Memory = (beyond ≡ []) × StoppedWithin p out.bytes out_now.bytes out.faults out_now.faults (reports p (lines_of bytes)) Memory
HaltsAt p limit count bytes beyond source source_now out out_now Write = (beyond ≡ []) × StoppedWithin p out.bytes out_now.bytes out.faults out_now.faults (reports p (lines_of bytes)) Write
HaltsAt p limit count bytes beyond source source_now out out_now Read =
    (beyond ≡ []) × Rose source.faults source_now.faults × Appends out.bytes out_now.bytes (texts_from p 0 (whole_reports p bytes))
HaltsAt p limit count bytes beyond source source_now out out_now TooLong =
    (length beyond ≡ 1) × (count ≡ limit) × Appends out.bytes out_now.bytes (texts_from p 0 (whole_reports p bytes))

-- beyond the limit at most one byte is taken
pub record Halts (p : Meant) (limit taken : ℕ) (first : List ℕ) (source source_now out out_now : Seen) (stop : Stop) : Type 0 where
  pub rest : List ℕ
  pub beyond : List ℕ
  pub given : Consumes source.bytes source_now.bytes (rest ++ beyond)
  pub within : taken + length rest ≤ limit
  pub halted : HaltsAt p limit (taken + length rest) (first ++ rest) beyond source source_now out out_now stop

-- ---- words of contracts
abbrev pub PlaysOut : Judged → (limit taken : ℕ) → (first : List ℕ) → (left : Option (List ℕ)) → ℕ → (left_now : Option (List ℕ)) → ℕ → (told : Option (List ℕ)) → ℕ → (told_now : Option (List ℕ)) → ℕ → Played → Type 0
PlaysOut j limit taken first left faults left_now faults_now told failed told_now failed_now played =
    IsPlayedOut j.program j.engine.shards limit taken first (seen left faults) (seen left_now faults_now) (seen told failed) (seen told_now failed_now) played

abbrev pub PlayHalts : Judged → (limit taken : ℕ) → (first : List ℕ) → (left : Option (List ℕ)) → ℕ → (left_now : Option (List ℕ)) → ℕ → (told : Option (List ℕ)) → ℕ → (told_now : Option (List ℕ)) → ℕ → Stop → Type 0
PlayHalts j limit taken first left faults left_now faults_now told failed told_now failed_now stop =
    Halts j.program limit taken first (seen left faults) (seen left_now faults_now) (seen told failed) (seen told_now failed_now) stop

abbrev pub WhereFar : Meant → Option (List ℕ) → ℕ → Run → Cutting → (List ℕ → From → Type 0) → Type 0
WhereFar p told failed run cutter P = (bytes : List ℕ) (from : From) → IsFar p bytes from told failed run cutter → P bytes from

abbrev pub WhereBehind : Meant → Option (List ℕ) → ℕ → Run → (List Line → From → Type 0) → Type 0
WhereBehind p told failed run P = (lines : List Line) (from : From) → IsBehind p lines from told failed run → P lines from

abbrev pub with_line : Meant → List Line → RawLine → List Line
with_line p lines raw = lines ++ said_line p raw ∷ []

abbrev pub StopsFrom : Meant → From → Option (List ℕ) → ℕ → List Report → Stop → Type 0
StopsFrom p from told failed rs stop = StoppedWithin p from.taken told from.faults failed rs stop

abbrev pub StopsFar : Meant → List ℕ → From → Option (List ℕ) → ℕ → Stop → Type 0
StopsFar p bytes from told failed stop = StopsWithin p (ended_lines p bytes) from told failed stop
