use Rattle.sq_algebra.proofs.OperatorLemmas.{product-of_list}
use Rattle.sq_algebra.proofs.from_lists.nested_loops_are_products.Goals as goal

pub returns : goal.returns
returns g c orders = product-of_list g.L.Ord.cmp g.met.L.Ord.total orders.third g.J.Ord.cmp g.met.J.Ord.total orders.first g.K.Ord.cmp g.met.K.Ord.total orders.second
