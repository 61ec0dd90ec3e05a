use Rattle.sq_algebra.proofs.Weights.{same_weights}
use Rattle.sq_algebra.proofs.weights_decide.Goals as goal

pub returns : goal.returns
returns g c = same_weights g.K.Ord.cmp g.met.K.Ord.total
