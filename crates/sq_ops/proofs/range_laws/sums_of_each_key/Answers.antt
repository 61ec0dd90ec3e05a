use Rattle.sq_ops.proofs.Outside.{sums_of_each_key}
use Rattle.sq_ops.proofs.range_laws.sums_of_each_key.Goals as goal

pub returns : goal.returns
returns c spec z = sums_of_each_key spec z
