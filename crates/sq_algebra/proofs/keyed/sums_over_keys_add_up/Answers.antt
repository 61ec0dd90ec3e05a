use Rattle.sq_algebra.proofs.KeyedLemmas.{by_key_parts}
use Rattle.sq_algebra.proofs.keyed.sums_over_keys_add_up.Goals as goal

pub returns : goal.returns
returns g c orders key outer G part sums = by_key_parts g.C.Ord.cmp g.met.C.Ord.total orders.first g.K.Ord.cmp g.met.K.Ord.total orders.second key G sums.laws part sums.none g.D.Ord.cmp g.met.D.Ord.total orders.third outer.place outer.inner outer.tells
