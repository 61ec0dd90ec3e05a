use Rattle.std.proofs.Common.{◌≡◌, take, filter, pos}
use Rattle.std.specs.Prelude.{int_lt}
use Rattle.sq_algebra.specs.ZSet.{entries, keys}
use Rattle.sq_distinct.proofs.whole.rows_above_zero.Given as goal

-- the rows above 0 among the first ones
abbrev pub invariant-loop-i : goal.invariant-loop-i
invariant-loop-i l = l.rows.items ≡ keys (filter (λ e. int_lt (pos 0) e.1) (take l.i (entries l.z)))
