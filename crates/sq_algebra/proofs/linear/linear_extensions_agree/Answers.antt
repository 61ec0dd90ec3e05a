use Rattle.sq_algebra.proofs.LinearLemmas.{lin_agree_at, lin_same}
use Rattle.sq_algebra.proofs.CompositionLemmas.{lin_at}
use Rattle.sq_algebra.proofs.linear.linear_extensions_agree.Goals as goal

pub returns-clause-functions : goal.returns-clause-functions
returns-clause-functions g c identical G laws = lin_agree_at g.K.Ord.cmp g.met.K.Ord.total identical G laws

pub returns-clause-weights : goal.returns-clause-weights
returns-clause-weights g c identical G laws = lin_same g.K.Ord.cmp g.met.K.Ord.total identical G laws

pub returns-clause-one_key : goal.returns-clause-one_key
returns-clause-one_key g c identical G laws = lin_at g.K.Ord.cmp g.met.K.Ord.total identical G laws
