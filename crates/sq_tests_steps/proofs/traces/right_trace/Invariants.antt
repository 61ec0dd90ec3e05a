use Rattle.std.proofs.Common.{◌≡◌, take}
use Rattle.sq_algebra.specs.ZSet.{entries}
use Rattle.sq_tests_steps.specs.Kept.{kept_under}
use Rattle.sq_tests_steps.proofs.traces.right_trace.Given as goal

-- the entries of the first rows
abbrev pub invariant-loop-i : goal.invariant-loop-i
invariant-loop-i g l = l.kept.items ≡ kept_under (g.B.Bilinear.right_keys l.op) (take l.i (entries l.z))
