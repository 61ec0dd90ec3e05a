use Rattle.std.proofs.Common.{◌≡◌}
use Rattle.sq_algebra.specs.Keyed.{numbers_below}
use Rattle.sq_plan.proofs.columns.numbers_below.Given as goal

abbrev pub invariant-loop-i : goal.invariant-loop-i
invariant-loop-i l = l.numbers ≡ numbers_below l.i
