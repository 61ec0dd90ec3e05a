use Rattle.sq_zset.proofs.Masses.{mass-from_pairs, mass-image, mass-in_range, mass-keep, mass-minus, mass-negate, mass-plus, mass-product, mass-total}
use Rattle.sq_zset.proofs.laws.masses_of_rows.Goals as goal

pub returns-clause-total : goal.returns-clause-total
returns-clause-total c = mass-total

pub returns-clause-sum : goal.returns-clause-sum
returns-clause-sum c = mass-plus

pub returns-clause-difference : goal.returns-clause-difference
returns-clause-difference c = mass-minus

pub returns-clause-negation : goal.returns-clause-negation
returns-clause-negation c = mass-negate

pub returns-clause-part : goal.returns-clause-part
returns-clause-part c = mass-keep

pub returns-clause-pairs : goal.returns-clause-pairs
returns-clause-pairs c = mass-from_pairs

pub returns-clause-image : goal.returns-clause-image
returns-clause-image c = mass-image

pub returns-clause-product : goal.returns-clause-product
returns-clause-product c = mass-product

pub returns-clause-in_range : goal.returns-clause-in_range
returns-clause-in_range c = mass-in_range
