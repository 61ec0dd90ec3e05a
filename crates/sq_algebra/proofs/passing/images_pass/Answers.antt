use Rattle.sq_algebra.proofs.PassingLemmas.{image_passes}
use Rattle.sq_algebra.proofs.Tests.{T_from, from_T}
use Rattle.sq_algebra.proofs.passing.images_pass.Goals as goal

pub returns : goal.returns
returns g c p q f kept z h = from_T _ (image_passes g.L.Ord.cmp g.met.L.Ord.total p q f (λ k t. T_from _ (kept k (from_T _ t))) z (T_from _ h))
