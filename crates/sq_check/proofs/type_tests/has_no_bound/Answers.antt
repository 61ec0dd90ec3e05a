use Rattle.sq_expr.specs.Bounds.{parts}
use Rattle.sq_check.proofs.TypesTests.{bounded, unbounded}
use Rattle.sq_check.proofs.type_tests.has_no_bound.Goals as goal

pub returns-in-Some : goal.returns-in-Some
returns-in-Some c = bounded c.args.kinds.now (parts c.args.expr.now) c.in-Some.ensures.1

pub returns-in-None : goal.returns-in-None
returns-in-None c = unbounded c.args.kinds.now (parts c.args.expr.now) c.in-None.ensures
