use Rattle.sq_algebra.proofs.ShardLemmas.{changes_add_up}
use Rattle.sq_algebra.proofs.shards.changes_add_up_over_shards.Goals as goal

pub returns : goal.returns
returns g c H G S part f laws = changes_add_up H G laws S part f
