use Rattle.sq_zset.proofs.Rows.{same_weights, weight-zero, weight-single, weight-plus, weight-negate, weight-minus, weight-of_list}
use Rattle.sq_zset.proofs.laws.rows_have_weights.Goals as goal

pub returns-clause-decide : goal.returns-clause-decide
returns-clause-decide c = same_weights

pub returns-clause-none : goal.returns-clause-none
returns-clause-none c = weight-zero

pub returns-clause-one : goal.returns-clause-one
returns-clause-one c = weight-single

pub returns-clause-sum : goal.returns-clause-sum
returns-clause-sum c = weight-plus

pub returns-clause-negation : goal.returns-clause-negation
returns-clause-negation c = weight-negate

pub returns-clause-difference : goal.returns-clause-difference
returns-clause-difference c = weight-minus

pub returns-clause-list : goal.returns-clause-list
returns-clause-list c = weight-of_list
