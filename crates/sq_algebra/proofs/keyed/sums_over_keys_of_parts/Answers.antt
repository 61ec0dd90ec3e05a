use Rattle.sq_algebra.proofs.KeyedLemmas.{by_key_agree, by_key_at_key, by_key_inside}
use Rattle.sq_algebra.proofs.keyed.sums_over_keys_of_parts.Goals as goal

pub returns-clause-same : goal.returns-clause-same
returns-clause-same g c key G = by_key_agree g.C.Ord.cmp g.K.Ord.cmp key G

pub returns-clause-inside : goal.returns-clause-inside
returns-clause-inside g c key G H f map = by_key_inside g.C.Ord.cmp g.K.Ord.cmp key G map.from H map.to f map.additive

pub returns-clause-one_key : goal.returns-clause-one_key
returns-clause-one_key g c orders key G part sums = by_key_at_key g.C.Ord.cmp g.met.C.Ord.total orders.first g.K.Ord.cmp g.met.K.Ord.total orders.second key G sums.laws part sums.none
