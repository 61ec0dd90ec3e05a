use Rattle.sq_algebra.proofs.ListLemmas.{distinct-change}
use Rattle.sq_algebra.proofs.operators.distinct_changes.Goals as goal

pub returns : goal.returns
returns g c = distinct-change g.K.Ord.cmp g.met.K.Ord.total
