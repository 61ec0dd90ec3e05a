use Rattle.sq_stream.proofs.Rows.{incremental-composition}
use Rattle.sq_stream.proofs.laws.chain_rule.Goals as goal

pub returns : goal.returns
returns g c = incremental-composition g.Q.Operator.meaning g.P.Operator.meaning
