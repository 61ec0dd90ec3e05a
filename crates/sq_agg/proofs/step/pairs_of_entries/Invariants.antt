use Rattle.std.proofs.Common.{◌≡◌, take}
use Rattle.sq_agg.specs.Entering.{as_pairs}
use Rattle.sq_zset.specs.Pairs.{weighted_rows}
use Rattle.sq_agg.proofs.step.pairs_of_entries.Given as goal

-- the first entries
abbrev pub invariant-loop-i : goal.invariant-loop-i
invariant-loop-i l = weighted_rows l.pairs.items ≡ as_pairs (take l.i l.entries)
