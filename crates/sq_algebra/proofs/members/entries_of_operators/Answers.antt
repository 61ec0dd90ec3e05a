use Rattle.sq_algebra.proofs.EntryLemmas.{entries-at_key, entries-distinct, entries-keep, entries-negate, from_pairs-entries}
use Rattle.sq_algebra.proofs.members.entries_of_operators.Goals as goal

pub returns-clause-test : goal.returns-clause-test
returns-clause-test g c = entries-keep g.K.Ord.cmp g.met.K.Ord.total

pub returns-clause-part : goal.returns-clause-part
returns-clause-part g c = entries-at_key g.K.Ord.cmp g.met.K.Ord.total

pub returns-clause-negation : goal.returns-clause-negation
returns-clause-negation g c = entries-negate g.K.Ord.cmp g.met.K.Ord.total

pub returns-clause-distinct : goal.returns-clause-distinct
returns-clause-distinct g c = entries-distinct g.K.Ord.cmp g.met.K.Ord.total

pub returns-clause-collected : goal.returns-clause-collected
returns-clause-collected g c = from_pairs-entries g.K.Ord.cmp g.met.K.Ord.total
