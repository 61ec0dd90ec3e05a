use Rattle.sq_tests_ticks.specs.Ticks.{EachAt, IsTotalAt}
use Rattle.sq_tests_ticks.proofs.ticks.totals_of.Given as goal

abbrev pub invariant-loop-i : goal.invariant-loop-i
invariant-loop-i l = EachAt (IsTotalAt l.values) l.totals.items l.i
