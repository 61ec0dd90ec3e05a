-- What a sample keeps: the generator at the next row to insert, and at the next one to delete.
--     inserted made, deleted made     how many rows of e were inserted and deleted in so many ticks
use Rattle.std.specs.Prelude.{◌≡◌, ℕ, zero, suc, ◌+◌, ◌*◌, ◌/◌}
use Rattle.sq_sample.specs.Numbers.{state_at}

abbrev pub inserted : ℕ → ℕ
inserted zero = 0
inserted (suc m) = 100000 + (m + 1) / 2

abbrev pub deleted : ℕ → ℕ
deleted zero = 0
deleted (suc m) = m / 2

pub record IsKept (seed made newest newest_number oldest oldest_number : ℕ) : Type 0 where
  pub newest_number_is : newest_number ≡ inserted made
  pub newest_is : newest ≡ state_at seed (2 * inserted made)
  pub oldest_number_is : oldest_number ≡ deleted made
  pub oldest_is : oldest ≡ state_at seed (2 * deleted made)
