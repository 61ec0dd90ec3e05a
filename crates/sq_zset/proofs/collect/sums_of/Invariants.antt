use Rattle.std.proofs.Common.{vec_len}
use Rattle.sq_zset.proofs.Collecting.{Collecting}
use Rattle.sq_zset.proofs.collect.sums_of.Given as goal

abbrev pub invariant-loop-pair : goal.invariant-loop-pair
invariant-loop-pair l = Collecting l.initial.pairs.items l.pairs.items l.sums.items

abbrev pub decreases-loop-pair : goal.decreases-loop-pair
decreases-loop-pair l = vec_len l.pairs
