use Rattle.std.proofs.Common.{◌≡◌, ◌++◌}
use Rattle.std.specs.List.{flat_map}
use Rattle.std.specs.Vec.Iter.{into_iter_items}
use Rattle.sq_algebra.specs.ZSet.{entries}
use Rattle.sq_zset.specs.Pairs.{weighted_rows}
use Rattle.sq_shard.specs.Pairs.{IsLight}
use Rattle.sq_shard.proofs.sum.all_pairs.Given as goal

-- the pairs so far and the parts that are still to come are all
abbrev pub invariant-loop-part : goal.invariant-loop-part
invariant-loop-part l =
    (weighted_rows l.pairs.items ++ flat_map entries (into_iter_items l.part-iterator) ≡ flat_map entries l.fn.parts.items)
    × IsLight l.pairs.items
