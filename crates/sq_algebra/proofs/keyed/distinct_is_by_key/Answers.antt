use Rattle.sq_algebra.proofs.KeyedLemmas.{distinct_by_key}
use Rattle.sq_algebra.proofs.keyed.distinct_is_by_key.Goals as goal

pub returns : goal.returns
returns g c = distinct_by_key g.K.Ord.cmp g.met.K.Ord.total
