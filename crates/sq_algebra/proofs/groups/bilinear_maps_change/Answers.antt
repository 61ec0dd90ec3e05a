use Rattle.sq_algebra.proofs.GroupLemmas.{bilinear_change}
use Rattle.sq_algebra.proofs.groups.bilinear_maps_change.Goals as goal

pub returns : goal.returns
returns g c G H F f maps = bilinear_change G H F maps.laws f maps.left maps.right
