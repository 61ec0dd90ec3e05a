use Rattle.sq_algebra.proofs.CompositionLemmas.{lin-product, weight-meet}
use Rattle.sq_algebra.proofs.products.products_are_weighed.Goals as goal

pub returns-clause-linear : goal.returns-clause-linear
returns-clause-linear g c orders = lin-product g.L.Ord.cmp g.met.L.Ord.total orders.third g.J.Ord.cmp g.met.J.Ord.total orders.first g.K.Ord.cmp g.met.K.Ord.total orders.second

pub returns-clause-meet : goal.returns-clause-meet
returns-clause-meet g c identical = weight-meet g.K.Ord.cmp g.met.K.Ord.total identical
