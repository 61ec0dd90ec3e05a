use Rattle.sq_algebra.specs.ZSet.{entries}
use Rattle.sq_ops.proofs.Grouping.{none_by_length}
use Rattle.sq_agg.proofs.step.has_no_rows.Goals as goal

pub returns : goal.returns
returns c = none_by_length (entries c.args.z.now) c.len.result c.len.ensures.len
