use Rattle.sq_algebra.specs.ZSet.{entries, entries_canonical, entries-from_entries}
use Rattle.sq_algebra.proofs.Weights.{ascending_from, from_entries-entries}
use Rattle.sq_algebra.proofs.Tests.{from_T, T_from}
use Rattle.sq_algebra.proofs.Places.{ascending_got}
use Rattle.sq_algebra.proofs.entries_are_canonical.Goals as goal

pub returns-clause-ascending : goal.returns-clause-ascending
returns-clause-ascending g c z i j d e = ascending_got g.K.Ord.cmp (entries z) i j d e (ascending_from g.K.Ord.cmp (entries z) (entries_canonical z))

pub returns-clause-canonical : goal.returns-clause-canonical
returns-clause-canonical g c z = from_T _ (entries_canonical z)

pub returns-clause-back : goal.returns-clause-back
returns-clause-back g c = from_entries-entries g.K.Ord.cmp

pub returns-clause-there : goal.returns-clause-there
returns-clause-there g c es h = entries-from_entries g.K.Ord.cmp es (T_from _ h)
