-- What a level gives: the answer to each task at its place, within the cost of all tasks.
use Rattle.std.specs.Prelude.{◌≡◌, ℕ, zero, suc, ◌+◌, ◌<◌, List, length, slice_index_or}

-- the sum of f over the numbers below n
abbrev pub sum_below : (ℕ → ℕ) → ℕ → ℕ
sum_below f zero = 0
sum_below f (suc n) = f n + sum_below f n

-- each task below n has its answer at its place, and there is no other
pub record IsAnswered {X : Type 0} (ok : ℕ → X → Type 0) (n : ℕ) (results : List X) : Type 0 where
  pub count : length results ≡ n
  pub each : (i : ℕ) (d : X) → i < n → ok i (slice_index_or results i d)
