use Rattle.sq_algebra.proofs.GroupingLemmas.{at_key-of_list, covers-first_of_each, grouped, of_list-groups_by}
use Rattle.sq_algebra.proofs.from_lists.groups_are_sums_over_keys.Goals as goal

pub returns-clause-lists : goal.returns-clause-lists
returns-clause-lists g c orders key f = of_list-groups_by g.C.Ord.cmp g.met.C.Ord.total orders.first g.K.Ord.cmp g.met.K.Ord.total orders.second key g.L.Ord.cmp g.met.L.Ord.total orders.third f.out f.part f.same f.none

pub returns-clause-sums : goal.returns-clause-sums
returns-clause-sums g c orders key G laws f = grouped g.C.Ord.cmp g.met.C.Ord.total orders.first g.K.Ord.cmp g.met.K.Ord.total orders.second key G laws f.value f.part f.same f.none

pub returns-clause-part : goal.returns-clause-part
returns-clause-part g c orders key = at_key-of_list g.C.Ord.cmp g.met.C.Ord.total orders.first g.K.Ord.cmp g.met.K.Ord.total orders.second key

pub returns-clause-cover : goal.returns-clause-cover
returns-clause-cover g c orders key = covers-first_of_each g.C.Ord.cmp g.met.C.Ord.total orders.first g.K.Ord.cmp g.met.K.Ord.total orders.second key
