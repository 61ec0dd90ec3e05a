use Rattle.std.proofs.Common.{rules, subst}
use Rattle.sq_ops.specs.Aggregates.{SuitsSpec}
use Rattle.sq_tests_ticks.specs.Making.{pairs}
use Rattle.sq_tests_ticks.proofs.Standing.{groups_next}
use Rattle.sq_tests_ticks.proofs.nodes.add_groups.Goals as goal

pub push-requires-clause-next : goal.push-requires-clause-next
push-requires-clause-next c =
    let suit : SuitsSpec c.in_ok-spec.spec pairs = search rules in
    rw c.in_ok-spec.ensures (groups_next c.args.view c.requires.view c.args.parts.now.items c.args.input c.args.column c.args.func c.args.arg c.args.place c.requires.input c.requires.columns.0 c.requires.columns.1
    (subst (λ s. SuitsSpec s pairs) c.in_ok-spec.ensures suit))
