use Rattle.sq_tests_ticks.specs.Ticks.{EachAt, IsReadyShard}
use Rattle.sq_tests_ticks.proofs.ready.prepare_all.Given as goal

abbrev pub invariant-loop-shard : goal.invariant-loop-shard
invariant-loop-shard l = EachAt (IsReadyShard l.pieces l.states) l.ready.items l.shard
