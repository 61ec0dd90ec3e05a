use Rattle.sq_algebra.proofs.OperatorLemmas.{keep-IsAdditive, keep-zero, keep_is, lin-keep, weight-keep}
use Rattle.sq_algebra.proofs.operators.tests_are_linear.Goals as goal

pub returns-clause-weights : goal.returns-clause-weights
returns-clause-weights g c identical = weight-keep g.K.Ord.cmp g.met.K.Ord.total identical

pub returns-clause-extension : goal.returns-clause-extension
returns-clause-extension g c identical = keep_is g.K.Ord.cmp g.met.K.Ord.total identical

pub returns-clause-additive : goal.returns-clause-additive
returns-clause-additive g c identical = keep-IsAdditive g.K.Ord.cmp g.met.K.Ord.total identical

pub returns-clause-none : goal.returns-clause-none
returns-clause-none g c identical = keep-zero g.K.Ord.cmp g.met.K.Ord.total identical

pub returns-clause-linear : goal.returns-clause-linear
returns-clause-linear g c identical = lin-keep g.K.Ord.cmp g.met.K.Ord.total identical
