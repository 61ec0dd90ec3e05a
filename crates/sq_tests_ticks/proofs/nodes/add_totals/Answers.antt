use Rattle.std.proofs.Common.{rules, subst}
use Rattle.sq_ops.specs.Aggregates.{SuitsSpec}
use Rattle.sq_tests_ticks.specs.Making.{pairs}
use Rattle.sq_tests_ticks.proofs.Standing.{totals_next}
use Rattle.sq_tests_ticks.proofs.nodes.add_totals.Goals as goal

pub push-requires-clause-next : goal.push-requires-clause-next
push-requires-clause-next c =
    let suit : SuitsSpec c.in_ok-spec.spec pairs = search rules in
    rw c.in_ok-spec.ensures (totals_next c.args.view c.requires.view c.args.parts.now.items c.args.input c.args.func c.args.other c.args.arg c.args.place c.requires.input c.requires.column
    (subst (λ s. SuitsSpec s pairs) c.in_ok-spec.ensures suit))
