use Rattle.sq_algebra.proofs.LinearLemmas.{lin_of_singles, total-IsAdditive, total_is, weight-IsAdditive, weight_is}
use Rattle.sq_algebra.proofs.linear.z_sets_are_linear.Goals as goal

pub returns-clause-singles : goal.returns-clause-singles
returns-clause-singles g c = lin_of_singles g.K.Ord.cmp g.met.K.Ord.total

pub returns-clause-weight : goal.returns-clause-weight
returns-clause-weight g c = weight_is g.K.Ord.cmp

pub returns-clause-total : goal.returns-clause-total
returns-clause-total g c = total_is g.K.Ord.cmp

pub returns-clause-weights_add : goal.returns-clause-weights_add
returns-clause-weights_add g c = weight-IsAdditive g.K.Ord.cmp g.met.K.Ord.total

pub returns-clause-totals_add : goal.returns-clause-totals_add
returns-clause-totals_add g c = total-IsAdditive g.K.Ord.cmp g.met.K.Ord.total
