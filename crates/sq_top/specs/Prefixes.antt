-- What a sink took of a line: some front of it.
use Rattle.std.specs.Prelude.{ℕ, List, take, Option}
use Rattle.std.specs.Io.KnownBytes.{Appends}

-- the sink took a prefix of a text
abbrev pub TakesPrefix : Option (List ℕ) → Option (List ℕ) → List ℕ → Type 0
TakesPrefix taken now text = (n : ℕ) × Appends taken now (take n text)
