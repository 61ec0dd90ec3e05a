use Rattle.sq_states.proofs.ShardValues.{values_follow, values_from_shards, values_in_shard}
use Rattle.sq_states.proofs.laws.values_are_tested_in_shards.Goals as goal

pub returns-clause-shard : goal.returns-clause-shard
returns-clause-shard c = values_in_shard

pub returns-clause-all : goal.returns-clause-all
returns-clause-all c = values_from_shards

pub returns-clause-changed : goal.returns-clause-changed
returns-clause-changed c = values_follow
