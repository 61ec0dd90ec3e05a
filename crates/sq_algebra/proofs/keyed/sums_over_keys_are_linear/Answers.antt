use Rattle.sq_algebra.proofs.KeyedLemmas.{by_key-IsAdditive, by_key-lin}
use Rattle.sq_algebra.proofs.keyed.sums_over_keys_are_linear.Goals as goal

pub returns-clause-additive : goal.returns-clause-additive
returns-clause-additive g c orders key G laws = by_key-IsAdditive g.C.Ord.cmp g.met.C.Ord.total orders.first g.K.Ord.cmp g.met.K.Ord.total orders.second key G laws

pub returns-clause-extension : goal.returns-clause-extension
returns-clause-extension g c orders key G laws = by_key-lin g.C.Ord.cmp g.met.C.Ord.total orders.first g.K.Ord.cmp g.met.K.Ord.total orders.second key G laws
