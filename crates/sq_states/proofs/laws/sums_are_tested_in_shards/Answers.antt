use Rattle.sq_states.proofs.ShardSums.{no_sums_at_first, sums_from_shards, sums_in_shard}
use Rattle.sq_states.proofs.laws.sums_are_tested_in_shards.Goals as goal

pub returns-clause-shard : goal.returns-clause-shard
returns-clause-shard c = sums_in_shard

pub returns-clause-all : goal.returns-clause-all
returns-clause-all c = sums_from_shards

pub returns-clause-none : goal.returns-clause-none
returns-clause-none c = no_sums_at_first
