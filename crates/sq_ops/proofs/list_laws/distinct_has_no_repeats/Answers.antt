use Rattle.sq_zset.proofs.RowOperators.{distinct-of_list}
use Rattle.sq_ops.proofs.list_laws.distinct_has_no_repeats.Goals as goal

pub returns : goal.returns
returns c op rows = distinct-of_list rows
