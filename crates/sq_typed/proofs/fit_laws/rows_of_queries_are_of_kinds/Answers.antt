use Rattle.sq_typed.proofs.FitQueries.{rows_of_query}
use Rattle.sq_typed.proofs.fit_laws.rows_of_queries_are_of_kinds.Goals as goal

pub returns : goal.returns
returns c = rows_of_query
