use Rattle.std.proofs.Common.{◌≤◌, ◌-◌, length}
use Rattle.sq_algebra.specs.ZSet.{entries}
use Rattle.sq_trace.specs.Extremes.{weight_after}
use Rattle.sq_trace.proofs.Firsts.{NoneKept}
use Rattle.sq_trace.proofs.kept.first_of.Given as goal

abbrev pub invariant-loop-row : goal.invariant-loop-row
invariant-loop-row l = (l.tested ≤ length (entries l.change)) × NoneKept l.side (weight_after l.key l.parts l.change) l.change l.tested

abbrev pub decreases-loop-row : goal.decreases-loop-row
decreases-loop-row l = length (entries l.change) - l.tested
