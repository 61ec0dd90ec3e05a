use Rattle.sq_algebra.proofs.PassingLemmas.{difference_passes, negation_passes, sum_passes}
use Rattle.sq_algebra.proofs.Tests.{T_from, from_T}
use Rattle.sq_algebra.proofs.passing.sums_pass.Goals as goal

pub returns-clause-sum : goal.returns-clause-sum
returns-clause-sum g c p y z one other = from_T _ (sum_passes p g.K.Ord.cmp g.met.K.Ord.total y z (T_from _ one) (T_from _ other))

pub returns-clause-difference : goal.returns-clause-difference
returns-clause-difference g c p y z one other = from_T _ (difference_passes p g.K.Ord.cmp g.met.K.Ord.total y z (T_from _ one) (T_from _ other))

pub returns-clause-negation : goal.returns-clause-negation
returns-clause-negation g c p z one = from_T _ (negation_passes p g.K.Ord.cmp g.met.K.Ord.total z (T_from _ one))
