use Rattle.sq_algebra.proofs.Weights.{weight-of_list, total-of_list, of_list-append}
use Rattle.sq_algebra.proofs.lists_are_counted.Goals as goal

pub returns-clause-weights : goal.returns-clause-weights
returns-clause-weights g c = weight-of_list g.K.Ord.cmp g.met.K.Ord.total

pub returns-clause-total : goal.returns-clause-total
returns-clause-total g c = total-of_list g.K.Ord.cmp g.met.K.Ord.total

pub returns-clause-joined : goal.returns-clause-joined
returns-clause-joined g c = of_list-append g.K.Ord.cmp g.met.K.Ord.total
