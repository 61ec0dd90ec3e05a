use Rattle.sq_algebra.proofs.AnyLemmas.{any_entry, any_firsts, any_ordered}
use Rattle.sq_algebra.proofs.members.some_member_of_a_list.Goals as goal

pub returns-clause-ordered : goal.returns-clause-ordered
returns-clause-ordered g c identical = any_ordered g.K.Ord.cmp g.met.K.Ord.total identical

pub returns-clause-first : goal.returns-clause-first
returns-clause-first g c identical = any_firsts g.K.Ord.cmp g.met.K.Ord.total identical

pub returns-clause-key : goal.returns-clause-key
returns-clause-key g c identical = any_entry g.K.Ord.cmp g.met.K.Ord.total identical
