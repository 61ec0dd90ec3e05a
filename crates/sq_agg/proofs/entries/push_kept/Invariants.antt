use Rattle.std.proofs.Common.{◌≡◌, ◌++◌, take}
use Rattle.sq_algebra.specs.ZSet.{entries}
use Rattle.sq_agg.specs.Entering.{kept_entries}
use Rattle.sq_agg.proofs.entries.push_kept.Given as goal

-- the first rows
abbrev pub invariant-loop-i : goal.invariant-loop-i
invariant-loop-i l = l.ordered.items ≡ l.fn.ordered.items ++ kept_entries l.key l.number (take l.i (entries l.kept))
