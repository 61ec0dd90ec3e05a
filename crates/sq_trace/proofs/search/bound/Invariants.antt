use Rattle.std.proofs.Common.{◌≤◌, ◌-◌, length, take, drop}
use Rattle.sq_trace.specs.Inside.{AllBelow, StartsAt}
use Rattle.sq_trace.proofs.search.bound.Given as goal

abbrev pub invariant-loop-low : goal.invariant-loop-low
invariant-loop-low g l = (l.low ≤ l.high) × (l.high ≤ length l.entries) × AllBelow (l.key, l.row) (take l.low l.entries) × StartsAt (l.key, l.row) (drop l.high l.entries)

abbrev pub decreases-loop-low : goal.decreases-loop-low
decreases-loop-low g l = l.high - l.low
