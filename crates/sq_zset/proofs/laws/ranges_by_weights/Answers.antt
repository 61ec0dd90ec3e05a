use Rattle.sq_zset.proofs.Masses.{in_range-weights, weights-in_range}
use Rattle.sq_zset.proofs.laws.ranges_by_weights.Goals as goal

pub returns : goal.returns
returns c z = (weights-in_range z, in_range-weights z)
