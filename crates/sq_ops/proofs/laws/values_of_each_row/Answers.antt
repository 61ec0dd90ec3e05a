use Rattle.sq_algebra.specs.ZSet.{entries}
use Rattle.sq_ops.proofs.Ranges.{none_of_each}
use Rattle.sq_ops.proofs.laws.values_of_each_row.Goals as goal

pub returns : goal.returns
returns c tested z = none_of_each (λ e. tested e.0) (entries z)
