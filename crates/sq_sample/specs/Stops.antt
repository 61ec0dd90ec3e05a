-- What a sink took when the run of the sample stopped.
--     Stopped taken now before after text stop    nothing, if memory ran out; and if a write failed, a prefix of the text, and the
--                                                 sink's count of faults rose
use Rattle.std.specs.Prelude.{ℕ, ◌≤◌, List, length, take, Option}
use Rattle.std.specs.Io.KnownBytes.{Appends, Keeps}
use Rattle.sq_base.specs.Causes.{Rose}
use Rattle.sq_sample.specs.declared.written.SampleStop.{SampleStop}
use Rattle.sq_sample.specs.declared.written.SampleStop.TheVariants.{Memory, Write}

abbrev pub Stopped : Option (List ℕ) → Option (List ℕ) → ℕ → ℕ → List ℕ → SampleStop → Type 0
Stopped taken now before after text Memory = Keeps taken now
Stopped taken now before after text Write = Rose before after × ((n : ℕ) × (n ≤ length text) × Appends taken now (take n text))
