use Rattle.sq_algebra.proofs.GroupLemmas.{integers-IsAbelian}
use Rattle.sq_algebra.proofs.LinearLemmas.{times_whole}
use Rattle.sq_algebra.proofs.groups.integers_are_a_group.Goals as goal

pub returns-clause-group : goal.returns-clause-group
returns-clause-group c = integers-IsAbelian

pub returns-clause-product : goal.returns-clause-product
returns-clause-product c = times_whole
