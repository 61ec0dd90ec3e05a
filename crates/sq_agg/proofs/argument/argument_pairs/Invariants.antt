use Rattle.std.proofs.Common.{◌≡◌, take}
use Rattle.sq_algebra.specs.ZSet.{entries}
use Rattle.sq_zset.specs.Pairs.{weighted_rows}
use Rattle.sq_agg.specs.Stepping.{argument_pairs}
use Rattle.sq_agg.proofs.argument.argument_pairs.Given as goal

-- the arguments of the first rows
abbrev pub invariant-loop-i : goal.invariant-loop-i
invariant-loop-i l = weighted_rows l.pairs.items ≡ argument_pairs l.column (take l.i (entries l.z))
