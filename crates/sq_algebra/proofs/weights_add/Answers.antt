use Rattle.sq_algebra.proofs.Weights.{weight-zero, weight-single, weight-plus, weight-negate, weight-minus}
use Rattle.sq_algebra.proofs.weights_add.Goals as goal

pub returns-clause-none : goal.returns-clause-none
returns-clause-none g c = weight-zero g.K.Ord.cmp

pub returns-clause-one : goal.returns-clause-one
returns-clause-one g c = weight-single g.K.Ord.cmp g.met.K.Ord.total

pub returns-clause-sum : goal.returns-clause-sum
returns-clause-sum g c = weight-plus g.K.Ord.cmp g.met.K.Ord.total

pub returns-clause-negation : goal.returns-clause-negation
returns-clause-negation g c = weight-negate g.K.Ord.cmp g.met.K.Ord.total

pub returns-clause-difference : goal.returns-clause-difference
returns-clause-difference g c = weight-minus g.K.Ord.cmp g.met.K.Ord.total
