-- A source in memory.
use Rattle.std.specs.Prelude.{ℕ, List, Contains, length, min, max}

-- the bytes that are left, how many a call gives at most, the numbers of the calls that fail,
-- and how often it was called and failed
pub record Supply : Type 0 where
  pub left : List ℕ
  pub piece : ℕ
  pub failing : List ℕ
  pub calls : ℕ
  pub faults : ℕ

-- a source of these bytes that has not been called
abbrev pub new_supply : List ℕ → ℕ → List ℕ → Supply
new_supply bytes piece failing = record { left = bytes; piece = piece; failing = failing; calls = 0; faults = 0 }

-- the next call is one of those that fail
abbrev pub FailsNext : Supply → Type 0
FailsNext s = Contains s.failing s.calls

-- how many bytes the next call gives to a buffer of this length
abbrev pub given_count : Supply → ℕ → ℕ
given_count s len = min (max s.piece 1) (min len (length s.left))
