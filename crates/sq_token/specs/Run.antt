-- Runs of bytes that pass a test.
use Rattle.std.specs.Prelude.{◌≡◌, ℕ, ◌<◌, ◌≤◌, Bool, true, false, List, length, slice_index}

-- the first n bytes of a text pass the test, and the next does not
pub record IsRun (test : ℕ → Bool) (text : List ℕ) (n : ℕ) : Type 0 where
  pub within : n ≤ length text
  pub passes : (k : ℕ) → k < n → test (slice_index text k) ≡ true
  pub stops : n < length text → test (slice_index text n) ≡ false
