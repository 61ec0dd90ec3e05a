use Rattle.sq_algebra.proofs.Weights.{total-zero, total-plus, total-negate, total-minus}
use Rattle.sq_algebra.proofs.totals_add.Goals as goal

pub returns-clause-none : goal.returns-clause-none
returns-clause-none g c = total-zero g.K.Ord.cmp

pub returns-clause-sum : goal.returns-clause-sum
returns-clause-sum g c = total-plus g.K.Ord.cmp g.met.K.Ord.total

pub returns-clause-negation : goal.returns-clause-negation
returns-clause-negation g c = total-negate g.K.Ord.cmp g.met.K.Ord.total

pub returns-clause-difference : goal.returns-clause-difference
returns-clause-difference g c = total-minus g.K.Ord.cmp g.met.K.Ord.total
