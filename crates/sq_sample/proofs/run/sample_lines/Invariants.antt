use Rattle.std.proofs.Common.{◌≡◌, ◌+◌, ◌-◌, ◌≤◌}
use Rattle.sq_sample.specs.Running.{IsAfter}
use Rattle.sq_sample.proofs.run.sample_lines.Given as goal

-- so many ticks were run
abbrev pub invariant-loop-made : goal.invariant-loop-made
invariant-loop-made l = (l.made ≤ l.ticks + 1) × (l.run.ticks ≡ record { seed = l.seed; made = l.made }) × IsAfter l.seed l.made l.run.engine l.run.numbers.items

abbrev pub decreases-loop-made : goal.decreases-loop-made
decreases-loop-made l = l.ticks + 1 - l.made
