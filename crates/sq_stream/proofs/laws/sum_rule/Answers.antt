use Rattle.sq_stream.proofs.Rows.{incremental-sum}
use Rattle.sq_stream.proofs.laws.sum_rule.Goals as goal

pub returns : goal.returns
returns g c = incremental-sum g.Q.Operator.meaning g.P.Operator.meaning
