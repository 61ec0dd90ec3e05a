use Rattle.sq_algebra.proofs.KeyedLemmas.{at_key-IsAdditive, at_key-at_key, at_key-zero, weight-at_key}
use Rattle.sq_algebra.proofs.keyed.parts_are_linear.Goals as goal

pub returns-clause-weights : goal.returns-clause-weights
returns-clause-weights g c orders key = weight-at_key g.C.Ord.cmp g.met.C.Ord.total orders.first g.K.Ord.cmp g.met.K.Ord.total orders.second key

pub returns-clause-additive : goal.returns-clause-additive
returns-clause-additive g c orders key = at_key-IsAdditive g.C.Ord.cmp g.met.C.Ord.total orders.first g.K.Ord.cmp g.met.K.Ord.total orders.second key

pub returns-clause-none : goal.returns-clause-none
returns-clause-none g c orders key = at_key-zero g.C.Ord.cmp g.met.C.Ord.total orders.first g.K.Ord.cmp g.met.K.Ord.total orders.second key

pub returns-clause-part : goal.returns-clause-part
returns-clause-part g c orders key P outer = at_key-at_key g.C.Ord.cmp g.met.C.Ord.total orders.first g.K.Ord.cmp g.met.K.Ord.total orders.second key P outer.place outer.inner outer.tells
