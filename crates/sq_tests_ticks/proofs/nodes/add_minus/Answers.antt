use Rattle.sq_tests_ticks.proofs.Standing.{minus_next}
use Rattle.sq_tests_ticks.proofs.nodes.add_minus.Goals as goal

pub push-requires-clause-next : goal.push-requires-clause-next
push-requires-clause-next c =
    minus_next c.args.view c.requires.view c.args.parts.now.items c.args.left c.args.right c.requires.left c.requires.right
