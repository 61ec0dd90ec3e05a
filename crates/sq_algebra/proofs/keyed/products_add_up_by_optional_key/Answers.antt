use Rattle.sq_algebra.proofs.KeyedLemmas.{covers-some_keys_of, pairs_where_apart, product_some_parts}
use Rattle.sq_algebra.proofs.JoinLemmas.{product_some_parts_right}
use Rattle.sq_algebra.proofs.keyed.products_add_up_by_optional_key.Goals as goal

pub returns-clause-left : goal.returns-clause-left
returns-clause-left g c orders = product_some_parts g.C.Ord.cmp g.met.C.Ord.total orders.first g.J.Ord.cmp g.met.J.Ord.total orders.second g.K.Ord.cmp g.met.K.Ord.total orders.third g.L.Ord.cmp g.met.L.Ord.total orders.fourth

pub returns-clause-right : goal.returns-clause-right
returns-clause-right g c orders = product_some_parts_right g.C.Ord.cmp g.met.C.Ord.total orders.first g.J.Ord.cmp g.met.J.Ord.total orders.second g.K.Ord.cmp g.met.K.Ord.total orders.third g.L.Ord.cmp g.met.L.Ord.total orders.fourth

pub returns-clause-cover : goal.returns-clause-cover
returns-clause-cover g c = covers-some_keys_of g.C.Ord.cmp g.met.C.Ord.total g.K.Ord.cmp

pub returns-clause-apart : goal.returns-clause-apart
returns-clause-apart g c orders left right pair = pairs_where_apart g.C.Ord.cmp g.met.C.Ord.total orders.first g.J.Ord.cmp g.met.J.Ord.total orders.second g.K.Ord.cmp g.met.K.Ord.total orders.third g.L.Ord.cmp g.met.L.Ord.total orders.fourth left.key right.key pair left.cell right.cell left.agrees right.agrees
