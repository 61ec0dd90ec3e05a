use Rattle.sq_algebra.proofs.Lists.{is_ascending-changed, count-changed}
use Rattle.sq_algebra.proofs.Changes.{entries_change}
use Rattle.sq_algebra.proofs.Tests.{from_T}
use Rattle.sq_algebra.proofs.changes_are_differences.Goals as goal

pub returns-clause-ascending : goal.returns-clause-ascending
returns-clause-ascending g c before now = from_T _ (is_ascending-changed g.K.Ord.cmp g.met.K.Ord.total before now)

pub returns-clause-once : goal.returns-clause-once
returns-clause-once g c = count-changed g.K.Ord.cmp g.met.K.Ord.total

pub returns-clause-entries : goal.returns-clause-entries
returns-clause-entries g c = entries_change g.K.Ord.cmp g.met.K.Ord.total
