use Rattle.std.proofs.Common.{◌≤◌, ◌-◌, length, take}
use Rattle.sq_trace.specs.Looking.{AllOfKey}
use Rattle.sq_trace.proofs.rows.range_of.Given as goal

abbrev pub invariant-loop-count : goal.invariant-loop-count
invariant-loop-count g l = (l.count ≤ length l.rest) × AllOfKey l.key (take l.count l.rest)

abbrev pub decreases-loop-count : goal.decreases-loop-count
decreases-loop-count g l = length l.rest - l.count
