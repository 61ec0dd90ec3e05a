use Rattle.sq_algebra.proofs.Weights.{weight-from_pairs, from_pairs-IsPermutation, from_pairs-append}
use Rattle.sq_algebra.proofs.pairs_add_up.Goals as goal

pub returns-clause-weights : goal.returns-clause-weights
returns-clause-weights g c = weight-from_pairs g.K.Ord.cmp g.met.K.Ord.total

pub returns-clause-order : goal.returns-clause-order
returns-clause-order g c = from_pairs-IsPermutation g.K.Ord.cmp g.met.K.Ord.total

pub returns-clause-joined : goal.returns-clause-joined
returns-clause-joined g c = from_pairs-append g.K.Ord.cmp g.met.K.Ord.total
