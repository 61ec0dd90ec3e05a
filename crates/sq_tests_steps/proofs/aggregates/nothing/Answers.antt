use Rattle.sq_tests_steps.proofs.Following.{follows_nothing}
use Rattle.sq_tests_steps.proofs.aggregates.nothing.Goals as goal

pub returns : goal.returns
returns c = follows_nothing c.args.spec.now c.new.result c.new-2.result c.new-3.result c.empty.result c.new.ensures c.new-2.ensures c.new-3.ensures c.empty.ensures
