use Rattle.sq_stream.proofs.Rows.{incremental-linear}
use Rattle.sq_stream.proofs.laws.linear_operators_are_incremental.Goals as goal

pub returns : goal.returns
returns g c = incremental-linear g.Q.Operator.meaning
