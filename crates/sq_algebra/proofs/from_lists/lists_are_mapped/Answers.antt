use Rattle.sq_algebra.proofs.OperatorLemmas.{image-of_list, image-of_list-map, keep-of_list, of_list-nil, of_list-one}
use Rattle.sq_algebra.proofs.from_lists.lists_are_mapped.Goals as goal

pub returns-clause-none : goal.returns-clause-none
returns-clause-none g c = of_list-nil g.K.Ord.cmp g.met.K.Ord.total

pub returns-clause-one : goal.returns-clause-one
returns-clause-one g c = of_list-one g.K.Ord.cmp

pub returns-clause-filtered : goal.returns-clause-filtered
returns-clause-filtered g c = keep-of_list g.K.Ord.cmp g.met.K.Ord.total

pub returns-clause-mapped : goal.returns-clause-mapped
returns-clause-mapped g c orders = image-of_list-map g.L.Ord.cmp g.met.L.Ord.total orders.second g.K.Ord.cmp g.met.K.Ord.total orders.first

pub returns-clause-flat_mapped : goal.returns-clause-flat_mapped
returns-clause-flat_mapped g c orders = image-of_list g.L.Ord.cmp g.met.L.Ord.total orders.second g.K.Ord.cmp g.met.K.Ord.total orders.first
