use Rattle.std.proofs.Common.{◌≡◌, take}
use Rattle.sq_algebra.specs.ZSet.{entries}
use Rattle.sq_ops.specs.Measures.{factor_of}
use Rattle.sq_ops.proofs.Measuring.{measure}
use Rattle.sq_ops.proofs.measure.measured.Given as goal

-- what the first rows count for
abbrev pub invariant-loop-i : goal.invariant-loop-i
invariant-loop-i l = l.sum ≡ measure (factor_of l.measure l.column) (take l.i (entries l.z))
