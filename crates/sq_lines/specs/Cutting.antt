-- How bytes are cut into lines, whatever pieces they come in.
--     lines_of bytes              the lines of some bytes
--     ended begun bytes           the lines whose end is among the bytes, if these bytes of the first line came before
--     unfinished begun bytes      what stands behind the last line end
--     kept line                   what is kept of a line: enough to see that it is too long
--     raw_lines n lines           the lines as they are handed out if n were handed out before
--     Cutting                     where the cutting stands: how many lines were handed out, and what is kept of the next one
--     answer c piece, fed c piece       what a piece brings, and where the cutting stands behind it
--     cut_after bytes             where it stands behind these bytes
--     last_line c                 what is left at the end
--     answers c pieces            all that pieces bring, one after the other, and what is left at the end
use Rattle.std.specs.Prelude.{ℕ, ◌+◌, ◌==◌, List, [], ◌∷◌, ◌++◌, length, map, take, if◌then◌else◌}
use Rattle.std.specs.List.{enumerate_from}
use Rattle.sq_lines.specs.Lines.{longest_line}
use Rattle.sq_lines.specs.declared.line.RawLine.{RawLine}

abbrev pub line_feed : ℕ
line_feed = 10

-- a byte at the front of the first line
abbrev pub onto_first_line : ℕ → List (List ℕ) → List (List ℕ)
onto_first_line b [] = (b ∷ []) ∷ []
onto_first_line b (line ∷ lines) = (b ∷ line) ∷ lines

-- A line ends at a line feed, which is no part of it; bytes behind the last line feed are a line too.
abbrev pub lines_of : List ℕ → List (List ℕ)
lines_of [] = []
lines_of (b ∷ bs) = if b == line_feed then [] ∷ lines_of bs else onto_first_line b (lines_of bs)

abbrev pub ended : List ℕ → List ℕ → List (List ℕ)
ended begun [] = []
ended begun (b ∷ bs) = if b == line_feed then begun ∷ ended [] bs else ended (begun ++ b ∷ []) bs

abbrev pub unfinished : List ℕ → List ℕ → List ℕ
unfinished begun [] = begun
unfinished begun (b ∷ bs) = if b == line_feed then unfinished [] bs else unfinished (begun ++ b ∷ []) bs

-- one byte more than a change line may have
abbrev pub most_kept : ℕ
most_kept = longest_line + 1

abbrev pub kept : List ℕ → List ℕ
kept line = take most_kept line

abbrev pub raw_lines : ℕ → List (List ℕ) → List RawLine
raw_lines n lines = map (λ l. record { number = l.0; bytes = kept l.1 }) (enumerate_from (n + 1) lines)

pub record Cutting : Type 0 where
  pub handed : ℕ
  pub begun : List ℕ

-- before the first byte
abbrev pub uncut : Cutting
uncut = record { handed = 0; begun = [] }

abbrev pub answer : Cutting → List ℕ → List RawLine
answer c piece = raw_lines c.handed (ended c.begun piece)

abbrev pub fed : Cutting → List ℕ → Cutting
fed c piece = record { handed = c.handed + length (ended c.begun piece); begun = kept (unfinished c.begun piece) }

abbrev pub cut_after : List ℕ → Cutting
cut_after bytes = record { handed = length (ended [] bytes); begun = kept (unfinished [] bytes) }

-- bytes that stand behind the last line end are a line, if there is one
abbrev pub last_of : List ℕ → List (List ℕ)
last_of [] = []
last_of (b ∷ bs) = (b ∷ bs) ∷ []

abbrev pub last_line : Cutting → List RawLine
last_line c = raw_lines c.handed (last_of c.begun)

abbrev pub answers : Cutting → List (List ℕ) → List RawLine
answers c [] = last_line c
answers c (piece ∷ pieces) = answer c piece ++ answers (fed c piece) pieces
