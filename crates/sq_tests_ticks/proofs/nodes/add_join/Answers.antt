use Rattle.std.proofs.Common.{◌++◌, rules}
use Rattle.sq_expr.specs.Fits.{SuitsCond}
use Rattle.sq_tests_ticks.specs.Making.{pairs}
use Rattle.sq_tests_ticks.proofs.Standing.{join_next}
use Rattle.sq_tests_ticks.proofs.nodes.add_join.Goals as goal

pub push-requires-clause-next : goal.push-requires-clause-next
push-requires-clause-next c =
    let suit : SuitsCond (pairs ++ pairs) c.args.keep = search rules in
    rw c.in_ok-op.ensures (join_next c.args.view c.requires.view c.args.parts.now.items c.args.inputs.0 c.args.inputs.1 c.args.columns.0 c.args.columns.1 c.args.items.0 c.args.items.1 c.args.nulls_match c.args.keep
    c.requires.left c.requires.right c.requires.columns.0 c.requires.columns.1 c.requires.items.0 c.requires.items.1 suit)
