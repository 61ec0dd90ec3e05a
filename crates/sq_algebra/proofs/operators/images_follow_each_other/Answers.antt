use Rattle.sq_algebra.proofs.CompositionLemmas.{image-image, image-keep, keep-image}
use Rattle.sq_algebra.proofs.OperatorLemmas.{lin-image}
use Rattle.sq_algebra.proofs.operators.images_follow_each_other.Goals as goal

pub returns-clause-image : goal.returns-clause-image
returns-clause-image g c orders = image-image g.L.Ord.cmp g.met.L.Ord.total orders.second g.K.Ord.cmp g.met.K.Ord.total orders.first g.M.Ord.cmp g.met.M.Ord.total orders.third

pub returns-clause-after_test : goal.returns-clause-after_test
returns-clause-after_test g c orders = image-keep g.L.Ord.cmp g.met.L.Ord.total orders.second g.K.Ord.cmp g.met.K.Ord.total orders.first

pub returns-clause-before_test : goal.returns-clause-before_test
returns-clause-before_test g c orders = keep-image g.L.Ord.cmp g.met.L.Ord.total orders.second g.K.Ord.cmp g.met.K.Ord.total orders.first

pub returns-clause-linear : goal.returns-clause-linear
returns-clause-linear g c orders f = lin-image g.L.Ord.cmp g.met.L.Ord.total orders.second g.K.Ord.cmp g.met.K.Ord.total orders.first f
