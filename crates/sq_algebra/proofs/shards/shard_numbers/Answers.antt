use Rattle.sq_algebra.proofs.ShardLemmas.{count-numbers_below}
use Rattle.sq_algebra.proofs.shards.shard_numbers.Goals as goal

pub returns : goal.returns
returns c = count-numbers_below
