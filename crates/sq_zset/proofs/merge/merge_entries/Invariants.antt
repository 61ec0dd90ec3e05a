use Rattle.std.proofs.Common.{◌+◌, length}
use Rattle.sq_zset.proofs.Merging.{Merging}
use Rattle.sq_zset.proofs.merge.merge_entries.Given as goal

abbrev pub invariant-loop-next : goal.invariant-loop-next
invariant-loop-next l = Merging l.sign l.fn.left l.fn.right l.left l.right l.list.items

abbrev pub decreases-loop-next : goal.decreases-loop-next
decreases-loop-next l = length l.left + length l.right
