use Rattle.std.proofs.Common.{◌≡◌, ◌++◌, map, vec_items}
use Rattle.std.specs.List.{AllByRecursion}
use Rattle.std.specs.Vec.Iter.{into_iter_items}
use Rattle.sq_shard.specs.Pairs.{IsReady, sums}
use Rattle.sq_shard.proofs.split.parts_of.Given as goal

-- the parts so far, and the lists that are still to come
abbrev pub invariant-loop-list : goal.invariant-loop-list
invariant-loop-list l =
    (l.parts.items ++ map sums (map vec_items (into_iter_items l.list-iterator)) ≡ map sums (map vec_items l.fn.lists.items))
    × AllByRecursion IsReady (map vec_items (into_iter_items l.list-iterator))
