use Rattle.sq_algebra.proofs.ListLemmas.{distinct-distinct, distinct-keep, distinct-zero, distinct_same, weight-distinct}
use Rattle.sq_algebra.proofs.operators.distinct_weights.Goals as goal

pub returns-clause-weights : goal.returns-clause-weights
returns-clause-weights g c = weight-distinct g.K.Ord.cmp g.met.K.Ord.total

pub returns-clause-none : goal.returns-clause-none
returns-clause-none g c = distinct-zero g.K.Ord.cmp g.met.K.Ord.total

pub returns-clause-same : goal.returns-clause-same
returns-clause-same g c = distinct_same g.K.Ord.cmp g.met.K.Ord.total

pub returns-clause-twice : goal.returns-clause-twice
returns-clause-twice g c = distinct-distinct g.K.Ord.cmp g.met.K.Ord.total

pub returns-clause-test : goal.returns-clause-test
returns-clause-test g c = distinct-keep g.K.Ord.cmp g.met.K.Ord.total
