use Rattle.sq_bridge.proofs.Meaningful.{query_means}
use Rattle.sq_bridge.proofs.query_laws.queries_are_operators.Goals as goal

pub returns : goal.returns
returns c = query_means
