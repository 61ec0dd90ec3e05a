use Rattle.sq_algebra.proofs.NonNegativeLemmas.{total-keep-le, weight-le-total}
use Rattle.sq_algebra.proofs.nonnegative.nonnegative_totals.Goals as goal

pub returns-clause-weight : goal.returns-clause-weight
returns-clause-weight g c = weight-le-total g.K.Ord.cmp g.met.K.Ord.total

pub returns-clause-test : goal.returns-clause-test
returns-clause-test g c = total-keep-le g.K.Ord.cmp g.met.K.Ord.total
