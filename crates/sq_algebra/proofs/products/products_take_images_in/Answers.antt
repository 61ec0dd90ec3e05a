use Rattle.sq_algebra.proofs.CompositionLemmas.{product-image_left, product-image_right}
use Rattle.sq_algebra.proofs.products.products_take_images_in.Goals as goal

pub returns-clause-left : goal.returns-clause-left
returns-clause-left g c orders = product-image_left g.L.Ord.cmp g.met.L.Ord.total orders.fourth g.J.Ord.cmp g.met.J.Ord.total orders.second g.K.Ord.cmp g.met.K.Ord.total orders.third g.I.Ord.cmp g.met.I.Ord.total orders.first

pub returns-clause-right : goal.returns-clause-right
returns-clause-right g c orders = product-image_right g.L.Ord.cmp g.met.L.Ord.total orders.fourth g.J.Ord.cmp g.met.J.Ord.total orders.second g.K.Ord.cmp g.met.K.Ord.total orders.third g.I.Ord.cmp g.met.I.Ord.total orders.first
