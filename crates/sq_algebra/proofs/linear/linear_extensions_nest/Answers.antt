use Rattle.sq_algebra.proofs.LinearLemmas.{lin-lin, lin-swap}
use Rattle.sq_algebra.proofs.linear.linear_extensions_nest.Goals as goal

pub returns-clause-swapped : goal.returns-clause-swapped
returns-clause-swapped g c orders G laws = lin-swap g.J.Ord.cmp g.met.J.Ord.total orders.first g.K.Ord.cmp g.met.K.Ord.total orders.second G laws

pub returns-clause-nested : goal.returns-clause-nested
returns-clause-nested g c orders G laws = lin-lin g.J.Ord.cmp g.met.J.Ord.total orders.first g.K.Ord.cmp g.met.K.Ord.total orders.second G laws
