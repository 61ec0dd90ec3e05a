use Rattle.std.proofs.Common.{rules}
use Rattle.sq_expr.specs.Fits.{SuitsCond}
use Rattle.sq_tests_ticks.specs.Making.{pairs}
use Rattle.sq_tests_ticks.proofs.Standing.{keep_next}
use Rattle.sq_tests_ticks.proofs.nodes.add_keep.Goals as goal

pub push-requires-clause-next : goal.push-requires-clause-next
push-requires-clause-next c =
    let suit : SuitsCond pairs c.args.cond = search rules in
    keep_next c.args.view c.requires.view c.args.parts.now.items c.args.input c.args.cond c.args.place c.requires.input suit
