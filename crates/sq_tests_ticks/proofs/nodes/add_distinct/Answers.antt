use Rattle.sq_tests_ticks.proofs.Standing.{distinct_next}
use Rattle.sq_tests_ticks.proofs.nodes.add_distinct.Goals as goal

pub push-requires-clause-next : goal.push-requires-clause-next
push-requires-clause-next c =
    distinct_next c.args.view c.requires.view c.args.parts.now.items c.args.input c.requires.input
