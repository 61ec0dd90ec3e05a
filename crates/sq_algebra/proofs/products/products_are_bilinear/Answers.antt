use Rattle.sq_algebra.proofs.OperatorLemmas.{product-left, product-right, product-zero_left, product-zero_right, product_is}
use Rattle.sq_algebra.proofs.CompositionLemmas.{product-flip, product_agree}
use Rattle.sq_algebra.proofs.products.products_are_bilinear.Goals as goal

pub returns-clause-extension : goal.returns-clause-extension
returns-clause-extension g c orders f = product_is g.L.Ord.cmp g.met.L.Ord.total orders.third g.J.Ord.cmp g.met.J.Ord.total orders.first g.K.Ord.cmp g.met.K.Ord.total orders.second f

pub returns-clause-left : goal.returns-clause-left
returns-clause-left g c orders f = product-left g.L.Ord.cmp g.met.L.Ord.total orders.third g.J.Ord.cmp g.met.J.Ord.total orders.first g.K.Ord.cmp g.met.K.Ord.total orders.second f

pub returns-clause-right : goal.returns-clause-right
returns-clause-right g c orders f = product-right g.L.Ord.cmp g.met.L.Ord.total orders.third g.J.Ord.cmp g.met.J.Ord.total orders.first g.K.Ord.cmp g.met.K.Ord.total orders.second f

pub returns-clause-none_left : goal.returns-clause-none_left
returns-clause-none_left g c orders f = product-zero_left g.L.Ord.cmp g.met.L.Ord.total orders.third g.J.Ord.cmp g.met.J.Ord.total orders.first g.K.Ord.cmp g.met.K.Ord.total orders.second f

pub returns-clause-none_right : goal.returns-clause-none_right
returns-clause-none_right g c orders f = product-zero_right g.L.Ord.cmp g.met.L.Ord.total orders.third g.J.Ord.cmp g.met.J.Ord.total orders.first g.K.Ord.cmp g.met.K.Ord.total orders.second f

pub returns-clause-flipped : goal.returns-clause-flipped
returns-clause-flipped g c orders = product-flip g.L.Ord.cmp g.met.L.Ord.total orders.third g.J.Ord.cmp g.met.J.Ord.total orders.first g.K.Ord.cmp g.met.K.Ord.total orders.second

pub returns-clause-same : goal.returns-clause-same
returns-clause-same g c orders = product_agree g.L.Ord.cmp g.met.L.Ord.total orders.third g.J.Ord.cmp g.met.J.Ord.total orders.first g.K.Ord.cmp g.met.K.Ord.total orders.second
