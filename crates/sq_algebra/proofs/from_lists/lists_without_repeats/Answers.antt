use Rattle.sq_algebra.proofs.ListLemmas.{distinct-of_list}
use Rattle.sq_algebra.proofs.CompositionLemmas.{of_list-among, of_list-without}
use Rattle.sq_algebra.proofs.from_lists.lists_without_repeats.Goals as goal

pub returns-clause-first : goal.returns-clause-first
returns-clause-first g c = distinct-of_list g.K.Ord.cmp g.met.K.Ord.total

pub returns-clause-among : goal.returns-clause-among
returns-clause-among g c = of_list-among g.K.Ord.cmp g.met.K.Ord.total

pub returns-clause-without : goal.returns-clause-without
returns-clause-without g c = of_list-without g.K.Ord.cmp g.met.K.Ord.total
