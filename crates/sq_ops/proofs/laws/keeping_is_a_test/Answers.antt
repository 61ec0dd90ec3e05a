use Rattle.sq_ops.specs.Rows.{holds}
use Rattle.sq_ops.proofs.Extending.{test_is_keep}
use Rattle.sq_ops.proofs.laws.keeping_is_a_test.Goals as goal

pub returns : goal.returns
returns c op z = test_is_keep (holds op.cond) z
