use Rattle.sq_algebra.proofs.CompositionLemmas.{image-product, keep-product, product-keep_left, product-keep_right}
use Rattle.sq_algebra.proofs.products.products_take_tests_in.Goals as goal

pub returns-clause-left : goal.returns-clause-left
returns-clause-left g c orders = product-keep_left g.L.Ord.cmp g.met.L.Ord.total orders.third g.J.Ord.cmp g.met.J.Ord.total orders.first g.K.Ord.cmp g.met.K.Ord.total orders.second

pub returns-clause-right : goal.returns-clause-right
returns-clause-right g c orders = product-keep_right g.L.Ord.cmp g.met.L.Ord.total orders.third g.J.Ord.cmp g.met.J.Ord.total orders.first g.K.Ord.cmp g.met.K.Ord.total orders.second

pub returns-clause-after : goal.returns-clause-after
returns-clause-after g c orders = keep-product g.L.Ord.cmp g.met.L.Ord.total orders.third g.J.Ord.cmp g.met.J.Ord.total orders.first g.K.Ord.cmp g.met.K.Ord.total orders.second

pub returns-clause-image : goal.returns-clause-image
returns-clause-image g c orders = image-product g.L.Ord.cmp g.met.L.Ord.total orders.third g.J.Ord.cmp g.met.J.Ord.total orders.first g.K.Ord.cmp g.met.K.Ord.total orders.second g.M.Ord.cmp g.met.M.Ord.total orders.fourth
