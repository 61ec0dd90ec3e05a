use Rattle.sq_algebra.proofs.MemberLemmas.{entries-of_list, entry-from_keep, entry-to_keep, entry_from, entry_is}
use Rattle.sq_algebra.proofs.members.entries_are_members.Goals as goal

pub returns-clause-weights : goal.returns-clause-weights
returns-clause-weights g c = entry_is g.K.Ord.cmp g.met.K.Ord.total

pub returns-clause-there : goal.returns-clause-there
returns-clause-there g c = entry_from g.K.Ord.cmp g.met.K.Ord.total

pub returns-clause-test : goal.returns-clause-test
returns-clause-test g c identical p z k n = (entry-from_keep g.K.Ord.cmp g.met.K.Ord.total identical p z k n, entry-to_keep g.K.Ord.cmp g.met.K.Ord.total identical p z k n)

pub returns-clause-list : goal.returns-clause-list
returns-clause-list g c = entries-of_list g.K.Ord.cmp g.met.K.Ord.total
