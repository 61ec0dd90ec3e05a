use Rattle.std.proofs.Common.{◌≡◌, take}
use Rattle.sq_algebra.specs.ZSet.{entries}
use Rattle.sq_ops.specs.Indexes.{entries_at}
use Rattle.sq_zset.specs.Pairs.{weighted_rows}
use Rattle.sq_agg.proofs.group.pairs_at.Given as goal

-- the entries at the first places
abbrev pub invariant-loop-i : goal.invariant-loop-i
invariant-loop-i l = weighted_rows l.pairs.items ≡ entries_at (entries l.z) (take l.i l.places)
