use Rattle.sq_bridge.proofs.QueryBlame.{query_agrees}
use Rattle.sq_bridge.proofs.query_laws.faults_of_queries_are_those_of_nodes.Goals as goal

pub returns : goal.returns
returns c = query_agrees
