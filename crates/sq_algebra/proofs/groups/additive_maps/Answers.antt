use Rattle.sq_algebra.proofs.GroupLemmas.{additive-minus, additive-negate, additive-sum_over, additive-times, additive-zero}
use Rattle.sq_algebra.proofs.groups.additive_maps.Goals as goal

pub returns-clause-zero : goal.returns-clause-zero
returns-clause-zero g c G H f map = additive-zero G H map.from map.to f map.additive

pub returns-clause-negation : goal.returns-clause-negation
returns-clause-negation g c G H f map = additive-negate G H map.from map.to f map.additive

pub returns-clause-difference : goal.returns-clause-difference
returns-clause-difference g c G H f map = additive-minus G H map.from map.to f map.additive

pub returns-clause-multiple : goal.returns-clause-multiple
returns-clause-multiple g c G H f map = additive-times G H map.from map.to f map.additive

pub returns-clause-sum : goal.returns-clause-sum
returns-clause-sum g c G H f map = additive-sum_over G H map.from map.to f map.additive
