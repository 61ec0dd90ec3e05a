use Rattle.sq_algebra.proofs.GroupLemmas.{functions_to-IsAbelian, pairs_of-IsAbelian}
use Rattle.sq_algebra.proofs.groups.pairs_and_functions_are_groups.Goals as goal

pub returns-clause-pairs : goal.returns-clause-pairs
returns-clause-pairs g c = pairs_of-IsAbelian

pub returns-clause-functions : goal.returns-clause-functions
returns-clause-functions g c = functions_to-IsAbelian g.row.X.Denot
