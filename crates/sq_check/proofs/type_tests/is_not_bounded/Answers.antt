use Rattle.sq_check.proofs.TypesTests.{tested}
use Rattle.sq_check.proofs.type_tests.is_not_bounded.Goals as goal

pub returns : goal.returns
returns c = tested c.args.kinds.now c.is_bounded.result c.args.cond.now c.is_bounded.ensures
