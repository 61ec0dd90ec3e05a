use Rattle.sq_zset.proofs.Rows.{total-plus, total-negate, total-minus, total-of_list}
use Rattle.sq_zset.proofs.laws.rows_have_totals.Goals as goal

pub returns-clause-sum : goal.returns-clause-sum
returns-clause-sum c = total-plus

pub returns-clause-negation : goal.returns-clause-negation
returns-clause-negation c = total-negate

pub returns-clause-difference : goal.returns-clause-difference
returns-clause-difference c = total-minus

pub returns-clause-list : goal.returns-clause-list
returns-clause-list c = total-of_list
