use Rattle.sq_algebra.proofs.OperatorLemmas.{weight-image, weight-injective}
use Rattle.sq_algebra.proofs.operators.weights_of_images.Goals as goal

pub returns-clause-all : goal.returns-clause-all
returns-clause-all g c orders f l z = weight-image g.L.Ord.cmp g.met.L.Ord.total orders.second g.K.Ord.cmp g.met.K.Ord.total orders.first f l z

pub returns-clause-injective : goal.returns-clause-injective
returns-clause-injective g c orders f apart k z = weight-injective g.L.Ord.cmp g.met.L.Ord.total orders.second g.K.Ord.cmp g.met.K.Ord.total orders.first f apart k z
