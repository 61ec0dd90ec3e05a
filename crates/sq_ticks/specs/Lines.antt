-- The lines of an input, and where its program text ends. Lines are those of sq_lines (`lines_of`, and `ended` for those whose line end is there).
--     is_end_line line, has_end_line lines     a line that ends the program text, and whether there is one
--     text_before_end, lines_after_end lines   the program text, and the change lines
--     up_to_end lines             the lines up to the first end line, with it
--     up_to_last f xs             the members up to the last that passes a test
--     with_ends lines             lines, each with its line feed
--     cut bytes                   the bytes up to the end of the last commit line, or of the end line if there is none
--     may_become_end_line line    the beginning of a line may be that of an end line
--     surely_before bytes         the bytes that stand before the end line, wherever it comes
use Rattle.std.specs.Prelude.{ℕ, ◌||◌, Bool, List, [], ◌∷◌, ◌++◌, if◌then◌else◌, codes}
use Rattle.std.specs.List.{flat_map, list_any}
use Rattle.std.specs.Str.{bytes_eq}
use Rattle.sq_lines.specs.Cutting.{ended, line_feed, unfinished}
use Rattle.sq_lines.specs.Lines.{says_commit}

-- three hyphens, or three hyphens and a carriage return
abbrev pub is_end_line : List ℕ → Bool
is_end_line line = bytes_eq line (codes "---") || bytes_eq line (codes "---\r")

-- whether a line ends the program text
abbrev pub has_end_line : List (List ℕ) → Bool
has_end_line lines = list_any is_end_line lines

-- the program text: the lines before the first end line, each with its line feed
abbrev pub text_before_end : List (List ℕ) → List ℕ
text_before_end [] = []
text_before_end (line ∷ lines) = if is_end_line line then [] else line ++ line_feed ∷ text_before_end lines

-- the change lines: those after the first end line
abbrev pub lines_after_end : List (List ℕ) → List (List ℕ)
lines_after_end [] = []
lines_after_end (line ∷ lines) = if is_end_line line then lines else lines_after_end lines

-- lines, each with its line feed
abbrev pub with_ends : List (List ℕ) → List ℕ
with_ends lines = flat_map (λ line. line ++ line_feed ∷ []) lines

abbrev pub up_to_end : List (List ℕ) → List (List ℕ)
up_to_end [] = []
up_to_end (line ∷ lines) = line ∷ (if is_end_line line then [] else up_to_end lines)

abbrev pub up_to_last : {A : Type 0} → (A → Bool) → List A → List A
up_to_last f [] = []
up_to_last f (x ∷ xs) = if list_any f (x ∷ xs) then x ∷ up_to_last f xs else []

-- Only lines whose line end is among the bytes count. If the end line is not among them, nothing is left.
abbrev pub cut_lines : List (List ℕ) → List ℕ
cut_lines lines = if has_end_line lines then with_ends (up_to_end lines ++ up_to_last says_commit (lines_after_end lines)) else []

abbrev pub cut : List ℕ → List ℕ
cut bytes = cut_lines (ended [] bytes)

-- ---- a text that is not ended yet
abbrev pub may_become_end_line : List ℕ → Bool
may_become_end_line line = list_any (λ front. bytes_eq line front) (codes "" ∷ codes "-" ∷ codes "--" ∷ codes "---" ∷ codes "---\r" ∷ [])

abbrev pub surely_before : List ℕ → List ℕ
surely_before bytes = if may_become_end_line (unfinished [] bytes) then with_ends (ended [] bytes) else bytes
