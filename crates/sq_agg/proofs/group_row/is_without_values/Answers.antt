use Rattle.sq_ops.proofs.Grouping.{none_by_length}
use Rattle.sq_agg.proofs.group_row.is_without_values.Goals as goal

pub returns : goal.returns
returns c = none_by_length c.args.row.now c.len.result c.len.ensures
