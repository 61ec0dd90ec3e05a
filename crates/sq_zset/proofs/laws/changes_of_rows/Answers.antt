use Rattle.sq_value.specs.OrderLaws.{row_cmp-antisymmetric}
use Rattle.sq_zset.proofs.laws.changes_of_rows.Goals as goal

pub returns : goal.returns
returns c = c.changes_are_differences.ensures.entries row_cmp-antisymmetric
