-- What a source or a sink tells of itself.
use Rattle.std.specs.Prelude.{◌≡◌, ℕ, List, Option, length}
use Rattle.std.specs.Io.KnownBytes.{Consumes}

-- the bytes that it tells, and how often it has failed
pub record Seen : Type 0 where
  pub bytes : Option (List ℕ)
  pub faults : ℕ

abbrev pub seen : Option (List ℕ) → ℕ → Seen
seen bytes faults = record { bytes = bytes; faults = faults }

-- the source gave exactly so many bytes
abbrev pub GivesExactly : ℕ → Option (List ℕ) → Option (List ℕ) → Type 0
GivesExactly count left now = (bytes : List ℕ) × Consumes left now bytes × (length bytes ≡ count)
