use Rattle.sq_algebra.proofs.JoinLemmas.{join_change}
use Rattle.sq_algebra.proofs.keyed.joins_change_by_key.Goals as goal

pub returns : goal.returns
returns g c orders = join_change g.C.Ord.cmp g.met.C.Ord.total orders.first g.J.Ord.cmp g.met.J.Ord.total orders.second g.K.Ord.cmp g.met.K.Ord.total orders.third g.L.Ord.cmp g.met.L.Ord.total orders.fourth
