use Rattle.std.proofs.Common.{◌≡◌, ◌++◌, None, filter}
use Rattle.std.specs.Vec.Iter.{into_iter_items}
use Rattle.sq_algebra.specs.ZSet.{entries}
use Rattle.sq_zset.specs.Pairs.{weighted_rows}
use Rattle.sq_zset.specs.Range.{first_outside_in}
use Rattle.sq_shard.specs.Pairs.{IsLight}
use Rattle.sq_incr.specs.Inputs.{is_own}
use Rattle.sq_incr.proofs.keys.own_pairs.Given as goal

-- the pairs so far and those that are still to come are all, and these are in range
abbrev pub invariant-loop-entry : goal.invariant-loop-entry
invariant-loop-entry l =
    (weighted_rows l.pairs.items ++ filter (is_own l.fn.shards l.fn.shard) (into_iter_items l.entry-iterator) ≡ filter (is_own l.fn.shards l.fn.shard) (entries l.fn.z))
    × (first_outside_in (into_iter_items l.entry-iterator) ≡ None)
    × IsLight l.pairs.items
