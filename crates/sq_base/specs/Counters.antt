-- Counters of steps.
use Rattle.std.specs.Prelude.{ℕ, ◌+◌, ◌-◌, ◌^◌, min, Option}

-- how many steps were counted, and the ledger, if the counter came from `begin`
pub record Counter (L : Type 0) : Type 0 where
  pub count : ℕ
  pub ledger : Option L

-- the sum of two counts; a count stands still at its last value
abbrev pub together : ℕ → ℕ → ℕ
together count more = min (count + more) (2 ^ 64 - 1)
