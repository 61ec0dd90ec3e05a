use Rattle.std.proofs.Common.{◌≡◌, ◌++◌, None}
use Rattle.std.specs.Vec.Iter.{into_iter_items}
use Rattle.sq_algebra.specs.ZSet.{entries}
use Rattle.sq_zset.specs.Pairs.{weighted_rows}
use Rattle.sq_zset.specs.Range.{first_outside_in}
use Rattle.sq_shard.specs.Pairs.{IsLight}
use Rattle.sq_shard.proofs.sum.move_pairs.Given as goal

-- the pairs so far and the entries that are still to come are all, and these are in range
abbrev pub invariant-loop-entry : goal.invariant-loop-entry
invariant-loop-entry l =
    (weighted_rows l.pairs.items ++ into_iter_items l.entry-iterator ≡ weighted_rows l.fn.pairs.items ++ entries l.fn.part)
    × (first_outside_in (into_iter_items l.entry-iterator) ≡ None)
    × (IsLight l.fn.pairs.items → IsLight l.pairs.items)
