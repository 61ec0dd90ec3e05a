use Rattle.std.proofs.Common.{◌≤ℤ◌, pos, take}
use Rattle.std.specs.List.{AllByRecursion}
use Rattle.sq_algebra.specs.ZSet.{entries}
use Rattle.sq_good.proofs.good.is_listed.Given as goal

-- no weight so far is below 0
abbrev pub invariant-loop-i : goal.invariant-loop-i
invariant-loop-i l = AllByRecursion (λ e. pos 0 ≤ℤ e.1) (take l.i (entries l.z))
