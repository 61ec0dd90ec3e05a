use Rattle.sq_algebra.proofs.OperatorLemmas.{image-IsAdditive, image-single, image-zero, image_is}
use Rattle.sq_algebra.proofs.CompositionLemmas.{image_agree}
use Rattle.sq_algebra.proofs.operators.images_are_linear.Goals as goal

pub returns-clause-extension : goal.returns-clause-extension
returns-clause-extension g c orders f = image_is g.L.Ord.cmp g.met.L.Ord.total orders.second g.K.Ord.cmp g.met.K.Ord.total orders.first f

pub returns-clause-additive : goal.returns-clause-additive
returns-clause-additive g c orders f = image-IsAdditive g.L.Ord.cmp g.met.L.Ord.total orders.second g.K.Ord.cmp g.met.K.Ord.total orders.first f

pub returns-clause-none : goal.returns-clause-none
returns-clause-none g c orders f = image-zero g.L.Ord.cmp g.met.L.Ord.total orders.second g.K.Ord.cmp g.met.K.Ord.total orders.first f

pub returns-clause-one : goal.returns-clause-one
returns-clause-one g c orders f = image-single g.L.Ord.cmp g.met.L.Ord.total orders.second g.K.Ord.cmp g.met.K.Ord.total orders.first f

pub returns-clause-same : goal.returns-clause-same
returns-clause-same g c orders = image_agree g.L.Ord.cmp g.met.L.Ord.total orders.second g.K.Ord.cmp g.met.K.Ord.total orders.first
