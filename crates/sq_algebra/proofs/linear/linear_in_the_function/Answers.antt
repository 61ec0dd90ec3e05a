use Rattle.sq_algebra.proofs.LinearLemmas.{lin_of_negate, lin_of_plus, lin_of_sum, lin_of_times, lin_of_zero}
use Rattle.sq_algebra.proofs.linear.linear_in_the_function.Goals as goal

pub returns-clause-zero : goal.returns-clause-zero
returns-clause-zero g c identical G laws = lin_of_zero g.K.Ord.cmp g.met.K.Ord.total identical G laws

pub returns-clause-sum : goal.returns-clause-sum
returns-clause-sum g c identical G laws = lin_of_plus g.K.Ord.cmp g.met.K.Ord.total identical G laws

pub returns-clause-negation : goal.returns-clause-negation
returns-clause-negation g c identical G laws = lin_of_negate g.K.Ord.cmp g.met.K.Ord.total identical G laws

pub returns-clause-multiple : goal.returns-clause-multiple
returns-clause-multiple g c identical G laws = lin_of_times g.K.Ord.cmp g.met.K.Ord.total identical G laws

pub returns-clause-list : goal.returns-clause-list
returns-clause-list g c identical G laws = lin_of_sum g.K.Ord.cmp g.met.K.Ord.total identical G laws
