-- Sources and sinks over std's readers and writers.
use Rattle.std.specs.Prelude.{ℕ}

-- a stream of std, and how often it failed
pub record Counted (S : Type 0) : Type 0 where
  pub stream : S
  pub faults : ℕ
