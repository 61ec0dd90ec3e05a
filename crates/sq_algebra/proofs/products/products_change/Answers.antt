use Rattle.sq_algebra.proofs.OperatorLemmas.{product-change}
use Rattle.sq_algebra.proofs.products.products_change.Goals as goal

pub returns : goal.returns
returns g c orders f = product-change g.L.Ord.cmp g.met.L.Ord.total orders.third g.J.Ord.cmp g.met.J.Ord.total orders.first g.K.Ord.cmp g.met.K.Ord.total orders.second f
