use Rattle.sq_algebra.proofs.ShardLemmas.{at_one_shard}
use Rattle.sq_algebra.proofs.shards.one_shard_adds_up.Goals as goal

pub returns : goal.returns
returns g c S G laws = at_one_shard S G laws
