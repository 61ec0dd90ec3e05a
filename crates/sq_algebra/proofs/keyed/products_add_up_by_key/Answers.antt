use Rattle.sq_algebra.proofs.KeyedLemmas.{product_parts}
use Rattle.sq_algebra.proofs.JoinLemmas.{product_parts_right}
use Rattle.sq_algebra.proofs.keyed.products_add_up_by_key.Goals as goal

pub returns-clause-left : goal.returns-clause-left
returns-clause-left g c orders = product_parts g.C.Ord.cmp g.met.C.Ord.total orders.first g.J.Ord.cmp g.met.J.Ord.total orders.second g.K.Ord.cmp g.met.K.Ord.total orders.third g.L.Ord.cmp g.met.L.Ord.total orders.fourth

pub returns-clause-right : goal.returns-clause-right
returns-clause-right g c orders = product_parts_right g.C.Ord.cmp g.met.C.Ord.total orders.first g.J.Ord.cmp g.met.J.Ord.total orders.second g.K.Ord.cmp g.met.K.Ord.total orders.third g.L.Ord.cmp g.met.L.Ord.total orders.fourth
