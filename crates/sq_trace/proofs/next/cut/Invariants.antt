use Rattle.std.proofs.Common.{◌≤◌, ◌-◌, length, take, drop, true, false}
use Rattle.std.specs.Prelude.{option_copied}
use Rattle.sq_trace.specs.Ends.{is_low, AllAnswer}
use Rattle.sq_trace.proofs.next.cut.Given as goal

abbrev pub invariant-loop-low : goal.invariant-loop-low
invariant-loop-low g l = (l.low ≤ l.high) × (l.high ≤ length l.entries) × AllAnswer (is_low l.side l.key (option_copied l.last)) true (take l.low l.entries) × AllAnswer (is_low l.side l.key (option_copied l.last)) false (drop l.high l.entries)

abbrev pub decreases-loop-low : goal.decreases-loop-low
decreases-loop-low g l = l.high - l.low
