use Rattle.sq_algebra.proofs.Lists.{is_ascending-in_order, count-in_order}
use Rattle.sq_algebra.proofs.Tests.{from_T}
use Rattle.sq_algebra.proofs.lists_are_ordered.Goals as goal

pub returns-clause-ascending : goal.returns-clause-ascending
returns-clause-ascending g c xs = from_T _ (is_ascending-in_order g.K.Ord.cmp g.met.K.Ord.total xs)

pub returns-clause-once : goal.returns-clause-once
returns-clause-once g c = count-in_order g.K.Ord.cmp g.met.K.Ord.total
