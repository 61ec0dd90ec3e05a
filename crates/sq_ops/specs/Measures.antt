-- What is added up over the rows of a group, or of its change.
use Rattle.std.specs.Prelude.{ℕ, ◌^◌, ◌≤◌, if◌then◌else◌, List, [], ◌∷◌, ℤ, pos, unsigned_abs}
use Rattle.std.specs.List.{All}
use Rattle.sq_value.specs.declared.value.Value.{Value}
use Rattle.sq_value.specs.Order.{row_cmp}
use Rattle.sq_algebra.specs.ZSet.{ZSet, entries, from_pairs}
use Rattle.sq_zset.specs.Collecting.{mass_of}
use Rattle.sq_ops.specs.declared.measure.Measure.{Measure}
use Rattle.sq_ops.specs.declared.measure.Measure.TheVariants.{Values, Numbers}
use Rattle.sq_ops.specs.Aggregates.{has_value, number_at}

-- what a row counts for, by one column
abbrev pub factor_of : Measure → ℕ → List Value → ℤ
factor_of Values column row = if has_value column row then pos 1 else pos 0
factor_of Numbers column row = number_at column row

-- the row with the weight n, and no other
abbrev pub weighted : List Value → ℤ → ZSet (List Value) row_cmp
weighted row n = from_pairs row_cmp ((row, n) ∷ [])

-- each number of a row lies in the range of BIGINT
abbrev pub HasBigints : List Value → Type 0
HasBigints row = (column : ℕ) → unsigned_abs (number_at column row) ≤ 2 ^ 63

-- so few rows, with such numbers, that what is added up over them fits
pub record IsMeasurable (z : ZSet (List Value) row_cmp) : Type 0 where
  pub few : mass_of (entries z) ≤ 2 ^ 62
  pub has_bigints : All (λ e. HasBigints e.0) (entries z)
