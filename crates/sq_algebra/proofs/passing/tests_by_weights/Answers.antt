use Rattle.sq_algebra.proofs.PassingLemmas.{pass_from_weights, weights_from_pass}
use Rattle.sq_algebra.proofs.Tests.{T_from, from_T}
use Rattle.sq_algebra.proofs.passing.tests_by_weights.Goals as goal

pub returns : goal.returns
returns g c identical p z = (
  λ h. weights_from_pass p g.K.Ord.cmp g.met.K.Ord.total identical z (T_from _ h),
  λ none. from_T _ (pass_from_weights p g.K.Ord.cmp g.met.K.Ord.total z none),
)
