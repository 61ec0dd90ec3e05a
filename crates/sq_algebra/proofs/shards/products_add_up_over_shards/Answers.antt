use Rattle.sq_algebra.proofs.ShardLemmas.{product_cuts, product_some_cuts}
use Rattle.sq_algebra.proofs.shards.products_add_up_over_shards.Goals as goal

pub returns-clause-keys : goal.returns-clause-keys
returns-clause-keys g c orders S = product_cuts g.D.Ord.cmp g.met.D.Ord.total orders.first S g.J.Ord.cmp g.met.J.Ord.total orders.second g.K.Ord.cmp g.met.K.Ord.total orders.third g.L.Ord.cmp g.met.L.Ord.total orders.fourth

pub returns-clause-optional : goal.returns-clause-optional
returns-clause-optional g c orders S left right pair = product_some_cuts g.D.Ord.cmp g.met.D.Ord.total orders.first S g.J.Ord.cmp g.met.J.Ord.total orders.second g.K.Ord.cmp g.met.K.Ord.total orders.third g.L.Ord.cmp g.met.L.Ord.total orders.fourth left.key right.key pair left.cell right.cell left.agrees right.agrees
