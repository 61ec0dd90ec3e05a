-- A sink in memory.
use Rattle.std.specs.Prelude.{ℕ, ◌-◌, ◌<◌, ◌≤◌, ◌⊎◌, List, [], Contains, length, min, max}

-- the bytes that it took, how many a call takes at most, how many it has room for, the numbers of
-- the calls that fail, and how often it was called and failed
pub record Store : Type 0 where
  pub taken : List ℕ
  pub piece : ℕ
  pub room : ℕ
  pub failing : List ℕ
  pub calls : ℕ
  pub faults : ℕ

-- an empty sink that has not been called
abbrev pub new_store : ℕ → ℕ → List ℕ → Store
new_store piece room failing = record { taken = []; piece = piece; room = room; failing = failing; calls = 0; faults = 0 }

-- the next call fails: it is one of those that do, or it has bytes and no room is left
abbrev pub FailsNext : Store → List ℕ → Type 0
FailsNext s bytes = Contains s.failing s.calls ⊎ ((0 < length bytes) × (s.room ≤ length s.taken))

-- how many bytes the next call takes of this many
abbrev pub taken_count : Store → ℕ → ℕ
taken_count s len = min (max s.piece 1) (min len (s.room - length s.taken))
