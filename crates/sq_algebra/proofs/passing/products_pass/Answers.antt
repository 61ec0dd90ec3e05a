use Rattle.sq_algebra.proofs.PassingLemmas.{product_passes}
use Rattle.sq_algebra.proofs.Tests.{T_from, from_T}
use Rattle.sq_algebra.proofs.passing.products_pass.Goals as goal

pub returns : goal.returns
returns g c p r q f kept y z a b = from_T _ (product_passes g.L.Ord.cmp g.met.L.Ord.total p r q f (λ j k s t. T_from _ (kept j k (from_T _ s) (from_T _ t))) y z (T_from _ a) (T_from _ b))
