use Rattle.sq_algebra.proofs.ShardLemmas.{by_key_cuts, distinct_cuts}
use Rattle.sq_algebra.proofs.shards.sums_over_keys_add_up_over_shards.Goals as goal

pub returns-clause-keys : goal.returns-clause-keys
returns-clause-keys g c orders S fine outer G part sums = by_key_cuts S g.K.Ord.cmp outer.place g.met.K.Ord.total orders.second g.C.Ord.cmp g.met.C.Ord.total orders.first fine outer.inner outer.tells G sums.laws part sums.none

pub returns-clause-distinct : goal.returns-clause-distinct
returns-clause-distinct g c identical S key = distinct_cuts S g.K.Ord.cmp key g.met.K.Ord.total identical
