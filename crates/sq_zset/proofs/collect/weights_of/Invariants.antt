use Rattle.std.proofs.Common.{vec_len}
use Rattle.sq_zset.proofs.Collecting.{Weighing}
use Rattle.sq_zset.proofs.collect.weights_of.Given as goal

abbrev pub invariant-loop-row : goal.invariant-loop-row
invariant-loop-row l = Weighing l.fn.sums.items l.sums.items l.list.items

abbrev pub decreases-loop-row : goal.decreases-loop-row
decreases-loop-row l = vec_len l.sums
