use Rattle.std.proofs.Common.{refl}
use Rattle.sq_ops.proofs.Grouping.{none_by_length}
use Rattle.sq_ops.proofs.aggregate.are_none.Goals as goal

pub returns : goal.returns
returns c = none_by_length c.args.columns.now _ refl
