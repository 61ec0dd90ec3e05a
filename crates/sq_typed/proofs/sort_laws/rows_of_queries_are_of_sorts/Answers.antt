use Rattle.sq_typed.proofs.Sorting.{query_sorts}
use Rattle.sq_typed.proofs.sort_laws.rows_of_queries_are_of_sorts.Goals as goal

pub returns : goal.returns
returns c = query_sorts
