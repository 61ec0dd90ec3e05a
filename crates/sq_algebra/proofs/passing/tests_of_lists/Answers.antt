use Rattle.sq_algebra.proofs.PassingLemmas.{list_passes}
use Rattle.sq_algebra.proofs.passing.tests_of_lists.Goals as goal

pub returns : goal.returns
returns g c identical p = list_passes p g.K.Ord.cmp g.met.K.Ord.total identical
