use Rattle.sq_algebra.proofs.NonNegativeLemmas.{nonnegative-distinct, nonnegative-image, nonnegative-keep, nonnegative-plus, nonnegative-product}
use Rattle.sq_algebra.proofs.nonnegative.operators_stay_nonnegative.Goals as goal

pub returns-clause-sum : goal.returns-clause-sum
returns-clause-sum g c = nonnegative-plus g.K.Ord.cmp g.met.K.Ord.total

pub returns-clause-distinct : goal.returns-clause-distinct
returns-clause-distinct g c = nonnegative-distinct g.K.Ord.cmp g.met.K.Ord.total

pub returns-clause-test : goal.returns-clause-test
returns-clause-test g c = nonnegative-keep g.K.Ord.cmp g.met.K.Ord.total

pub returns-clause-image : goal.returns-clause-image
returns-clause-image g c orders = nonnegative-image g.K.Ord.cmp g.met.K.Ord.total orders.first g.L.Ord.cmp g.met.L.Ord.total orders.second

pub returns-clause-product : goal.returns-clause-product
returns-clause-product g c orders = nonnegative-product g.K.Ord.cmp g.met.K.Ord.total orders.second g.J.Ord.cmp g.met.J.Ord.total orders.first g.L.Ord.cmp g.met.L.Ord.total orders.third
