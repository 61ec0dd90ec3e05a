use Rattle.sq_algebra.proofs.PaddingLemmas.{of_list-padded, unmatched_is}
use Rattle.sq_algebra.proofs.from_lists.padded_loops_are_products.Goals as goal

pub returns-clause-padded : goal.returns-clause-padded
returns-clause-padded g c orders by = of_list-padded by.matches by.joined by.padded g.L.Ord.cmp g.met.L.Ord.total orders.third g.J.Ord.cmp g.met.J.Ord.total orders.first g.K.Ord.cmp g.met.K.Ord.total orders.second

pub returns-clause-unmatched : goal.returns-clause-unmatched
returns-clause-unmatched g c orders matches = unmatched_is matches g.J.Ord.cmp g.met.J.Ord.total orders.first g.K.Ord.cmp g.met.K.Ord.total orders.second
