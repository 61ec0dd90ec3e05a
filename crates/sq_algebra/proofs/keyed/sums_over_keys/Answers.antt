use Rattle.sq_algebra.proofs.KeyedLemmas.{by_key-change, by_key-zero, by_key_over}
use Rattle.sq_algebra.proofs.keyed.sums_over_keys.Goals as goal

pub returns-clause-cover : goal.returns-clause-cover
returns-clause-cover g c orders key G part sums = by_key_over g.C.Ord.cmp g.met.C.Ord.total orders.first g.K.Ord.cmp g.met.K.Ord.total orders.second key G sums.laws part sums.none

pub returns-clause-none : goal.returns-clause-none
returns-clause-none g c orders key G part sums = by_key-zero g.C.Ord.cmp g.met.C.Ord.total orders.first g.K.Ord.cmp g.met.K.Ord.total orders.second key G sums.laws part sums.none

pub returns-clause-change : goal.returns-clause-change
returns-clause-change g c orders key G part sums = by_key-change g.C.Ord.cmp g.met.C.Ord.total orders.first g.K.Ord.cmp g.met.K.Ord.total orders.second key G sums.laws part sums.none
