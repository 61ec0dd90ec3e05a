use Rattle.sq_algebra.proofs.CompositionLemmas.{of_list-difference, of_list-intersection, of_list-union}
use Rattle.sq_algebra.proofs.ListLemmas.{count-difference, count-intersection, count-union}
use Rattle.sq_algebra.proofs.from_lists.set_operations.Goals as goal

pub returns-clause-union : goal.returns-clause-union
returns-clause-union g c = of_list-union g.K.Ord.cmp g.met.K.Ord.total

pub returns-clause-intersection : goal.returns-clause-intersection
returns-clause-intersection g c = of_list-intersection g.K.Ord.cmp g.met.K.Ord.total

pub returns-clause-difference : goal.returns-clause-difference
returns-clause-difference g c = of_list-difference g.K.Ord.cmp g.met.K.Ord.total

pub returns-clause-count_union : goal.returns-clause-count_union
returns-clause-count_union g c = count-union g.K.Ord.cmp g.met.K.Ord.total

pub returns-clause-count_intersection : goal.returns-clause-count_intersection
returns-clause-count_intersection g c = count-intersection g.K.Ord.cmp g.met.K.Ord.total

pub returns-clause-count_difference : goal.returns-clause-count_difference
returns-clause-count_difference g c = count-difference g.K.Ord.cmp g.met.K.Ord.total
