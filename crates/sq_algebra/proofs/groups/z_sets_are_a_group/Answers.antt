use Rattle.sq_algebra.proofs.GroupLemmas.{z_sets-IsAbelian}
use Rattle.sq_algebra.proofs.groups.z_sets_are_a_group.Goals as goal

pub returns : goal.returns
returns g c = z_sets-IsAbelian g.K.Ord.cmp g.met.K.Ord.total
