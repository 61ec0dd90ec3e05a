use Rattle.sq_check.proofs.TypesTests.{wide_is}
use Rattle.sq_check.proofs.type_tests.has_wide_expr.Goals as goal

pub returns : goal.returns
returns c = wide_is c.args.scope.now c.args.block.now c.in_ok-frame.frame c.in_ok-in_exprs.in_exprs c.in_ok-in_conds.in_conds c.in_ok-frame.ensures c.in_ok-in_exprs.ensures c.in_ok-in_conds.ensures
