-- What is printed for an input.
use Rattle.std.specs.Prelude.{ℕ, ◌+◌, ◌++◌, Bool, List, [], ◌∷◌}
use Rattle.std.specs.List.{list_any}
use Rattle.sq_typed.specs.Views.{Meant}
use Rattle.sq_lines.specs.Cutting.{lines_of}
use Rattle.sq_lines.specs.declared.line.Line.{Line}
use Rattle.sq_ticks.specs.Lines.{lines_after_end}
use Rattle.sq_compile.specs.Relations.{empty_tables}
use Rattle.sq_ticks.specs.Ticks.{Report, accepted, is_refusal, lines_from, ticks_of, reports_from}
use Rattle.sq_ticks.specs.Texts.{tick_text}

-- Block 0, in which no view had a row before and the tables are empty, and then each tick of the change lines.
abbrev pub reports_of : Meant → List Line → List Report
reports_of p lines = ([], accepted (empty_tables p.catalog)) ∷ reports_from p (empty_tables p.catalog) (ticks_of lines)

abbrev pub reports : Meant → List (List ℕ) → List Report
reports p lines = reports_of p (lines_from p.catalog 1 lines)

-- the texts of ticks, the first of them with this number
abbrev pub texts_from : Meant → ℕ → List Report → List ℕ
texts_from p tick [] = []
texts_from p tick (r ∷ rs) = tick_text p tick r.0 r.1 ++ texts_from p (tick + 1) rs

-- what is printed for an input with this program
abbrev pub output : Meant → List ℕ → List ℕ
output p input = texts_from p 0 (reports p (lines_after_end (lines_of input)))

-- whether a tick of the input is refused
abbrev pub has_refusal : Meant → List ℕ → Bool
has_refusal p input = list_any (λ r. is_refusal r.1) (reports p (lines_after_end (lines_of input)))
