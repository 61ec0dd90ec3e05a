use Rattle.sq_algebra.proofs.CompositionLemmas.{total-image, total-keep, total-product}
use Rattle.sq_algebra.proofs.operators.totals_of_operators.Goals as goal

pub returns-clause-image : goal.returns-clause-image
returns-clause-image g c orders = total-image g.K.Ord.cmp g.met.K.Ord.total orders.first g.L.Ord.cmp g.met.L.Ord.total orders.second

pub returns-clause-test : goal.returns-clause-test
returns-clause-test g c identical = total-keep g.K.Ord.cmp g.met.K.Ord.total identical

pub returns-clause-product : goal.returns-clause-product
returns-clause-product g c orders = total-product g.K.Ord.cmp g.met.K.Ord.total orders.second g.J.Ord.cmp g.met.J.Ord.total orders.first g.L.Ord.cmp g.met.L.Ord.total orders.third
