-- A program text as its bytes come.
--     IsOpen bytes line      no end line has come yet, and the line that has no line end yet begins at this place
--     IsEnded bytes line     such bytes, behind which a line end makes that line the end line
--     Takes before piece now answer      a text that took a piece, or its bytes up to the end line with its line end
use Rattle.std.specs.Prelude.{◌≡◌, ℕ, ◌≤◌, List, [], ◌∷◌, ◌++◌, length, take, drop, true, false, Option, Some, None}
use Rattle.sq_lines.specs.Cutting.{ended, line_feed, unfinished}
use Rattle.sq_ticks.specs.Lines.{has_end_line, is_end_line, with_ends}
use Rattle.sq_ticks.specs.declared.text.Text.{Text}

pub record IsOpen (bytes : List ℕ) (line : ℕ) : Type 0 where
  pub front : with_ends (ended [] bytes) ≡ take line bytes
  pub begun : unfinished [] bytes ≡ drop line bytes
  pub within : line ≤ length bytes
  pub none : has_end_line (ended [] bytes) ≡ false

pub record IsEnded (bytes : List ℕ) (line : ℕ) : Type 0 where
  pub so_far : IsOpen bytes line
  pub ends : is_end_line (drop line bytes) ≡ true

abbrev pub Takes : Text → List ℕ → Text → Option ℕ → Type 0
Takes before piece now None = (now.bytes.items ≡ before.bytes.items ++ piece) × IsOpen now.bytes.items now.line
Takes before piece now (Some n) = (now.bytes.items ++ line_feed ∷ [] ≡ before.bytes.items ++ take n piece) × (n ≤ length piece) × IsEnded now.bytes.items now.line
