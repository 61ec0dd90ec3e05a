-- What the reading of a program text finds.
--     front_of text, HasFront input text     a text with the line end of its end line, and an input that begins so
--     IsFound      the end line, the end of the input, or that the text is surely too long
--     IsUnfound    the reading stopped before the program could be judged
use Rattle.std.specs.Prelude.{◌≡◌, ℕ, ◌+◌, ◌-◌, ◌≤◌, ◌<◌, List, [], ◌∷◌, ◌++◌, length, take, drop, true}
use Rattle.std.specs.Io.KnownBytes.{Consumes, IsAtEnd}
use Rattle.sq_base.specs.Causes.{Rose}
use Rattle.sq_lines.specs.Cutting.{line_feed, lines_of}
use Rattle.sq_ticks.specs.Begun.{IsEnded, IsOpen}
use Rattle.sq_ticks.specs.Lines.{has_end_line, surely_before, text_before_end}
use Rattle.sq_compile.specs.Programs.{longest_text}
use Rattle.sq_ticks.specs.Seen.{Seen}
use Rattle.sq_top.specs.Statuses.{IsUnjudged}
use Rattle.sq_ticks.specs.declared.run.Stop.{Stop}
use Rattle.sq_ticks.specs.declared.run.Stop.TheVariants.{Memory, Read, TooLong, Write}
use Rattle.sq_top.specs.declared.session.Found.{Found}
use Rattle.sq_top.specs.declared.session.Found.TheVariants as found
use Rattle.sq_ticks.specs.declared.text.Text.{Text}

-- a text with the line end of its end line
abbrev pub front_of : Text → List ℕ
front_of text = text.bytes.items ++ line_feed ∷ []

-- the text of this input is this one before its last line
pub record HasFront (input : List ℕ) (text : Text) : Type 0 where
  pub ended : has_end_line (lines_of input) ≡ true
  pub before : take text.line text.bytes.items ≡ text_before_end (lines_of input)

abbrev pub IsFound : ℕ → (source source_now : Seen) → Text → List ℕ → Found → Type 0
IsFound limit source source_now text buffer (found.EndLine from to) = IsEnded text.bytes.items text.line × ((from ≤ to) × (to ≤ length buffer))
    × (Consumes source.bytes source_now.bytes (front_of text ++ take (to - from) (drop from buffer)) × (length text.bytes.items + 1 + (to - from) ≤ limit))
IsFound limit source source_now text buffer found.EndOfInput = IsOpen text.bytes.items text.line × IsAtEnd source_now.bytes
    × (Consumes source.bytes source_now.bytes text.bytes.items × (length text.bytes.items ≤ limit))
IsFound limit source source_now text buffer found.TooLong = IsOpen text.bytes.items text.line × (longest_text < length (surely_before text.bytes.items))
    × (Consumes source.bytes source_now.bytes text.bytes.items × (length text.bytes.items ≤ limit))

abbrev pub IsStoppedAt : ℕ → List ℕ → List ℕ → (source source_now : Seen) → Stop → Type 0
IsStoppedAt limit bytes beyond source source_now Memory = beyond ≡ []
IsStoppedAt limit bytes beyond source source_now Read = (beyond ≡ []) × Rose source.faults source_now.faults × IsUnjudged bytes
IsStoppedAt limit bytes beyond source source_now TooLong = (length beyond ≡ 1) × (length bytes ≡ limit) × IsUnjudged bytes
IsStoppedAt limit bytes beyond source source_now Write = ⊥

pub record IsUnfound (limit : ℕ) (source source_now : Seen) (stop : Stop) : Type 0 where
  pub bytes : List ℕ
  pub beyond : List ℕ
  pub given : Consumes source.bytes source_now.bytes (bytes ++ beyond)
  pub within : length bytes ≤ limit
  pub stopped : IsStoppedAt limit bytes beyond source source_now stop
