use Rattle.sq_algebra.proofs.ListLemmas.{count-among, count-first_of_each, count-without}
use Rattle.sq_algebra.proofs.Lists.{count-append}
use Rattle.sq_algebra.proofs.from_lists.repeats_are_counted.Goals as goal

pub returns-clause-first : goal.returns-clause-first
returns-clause-first g c = count-first_of_each g.K.Ord.cmp g.met.K.Ord.total

pub returns-clause-among : goal.returns-clause-among
returns-clause-among g c = count-among g.K.Ord.cmp g.met.K.Ord.total

pub returns-clause-without : goal.returns-clause-without
returns-clause-without g c = count-without g.K.Ord.cmp g.met.K.Ord.total

pub returns-clause-joined : goal.returns-clause-joined
returns-clause-joined g c = count-append g.K.Ord.cmp
