use Rattle.std.specs.Vec.Iter.{into_iter_items}
use Rattle.std.proofs.Common.{map, vec_items}
use Rattle.sq_algebra.specs.ZSet.{entries}
use Rattle.sq_shard.proofs.Sharing.{Sharing}
use Rattle.sq_shard.proofs.split.shares.Given as goal

abbrev pub invariant-loop-entry : goal.invariant-loop-entry
invariant-loop-entry l = Sharing l.shards l.columns (entries l.fn.z) (map vec_items l.lists.items) (into_iter_items l.entry-iterator)
