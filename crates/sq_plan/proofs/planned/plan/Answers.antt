use Rattle.std.proofs.Common.{◌<◌, ◌^◌, ◌++◌, length, sym, ap, subst, ◌∙◌}
use Rattle.std.specs.List.{AllByRecursion}
use Rattle.sq_circuit.specs.Invariant.{IsCircuit}
use Rattle.sq_plan.specs.Program.{IsPlanOf, views_from}
use Rattle.sq_plan.proofs.RelationsEnd.{is_circuit, plan_is, shown_few, shown_there}
use Rattle.sq_plan.proofs.planned.plan.Goals as goal

pub with_views-requires-clause-low : goal.with_views-requires-clause-low
with_views-requires-clause-low c =
    subst (AllByRecursion (λ i. i < length c.in_ok-walked.walked.draft.parts.items)) (sym c.as_slice.ensures.value)
    (shown_there c.args.program.now c.in_ok-walked.walked.draft c.in_ok-walked.walked.nodes.items c.in_ok-walked.walked.shown.items c.in_ok-walked.walked.tables c.in_ok-walked.ensures)

pub with_views-requires-clause-few : goal.with_views-requires-clause-few
with_views-requires-clause-few c =
    subst (λ ns. length ns < 2 ^ 32) (sym c.as_slice.ensures.value)
    (shown_few c.args.program.now c.in_ok-walked.walked.draft c.in_ok-walked.walked.nodes.items c.in_ok-walked.walked.shown.items c.in_ok-walked.walked.tables c.in_ok-walked.ensures)

pub of-requires : goal.of-requires
of-requires c =
    subst IsCircuit (sym (c.in_ok-parts.ensures ∙ ap (λ ns. c.in_ok-walked.walked.draft.parts.items ++ views_from c.in_ok-walked.walked.draft.parts.items 0 ns) c.as_slice.ensures.value))
    (is_circuit c.args.program.now c.in_ok-walked.walked.draft c.in_ok-walked.walked.nodes.items c.in_ok-walked.walked.shown.items c.in_ok-walked.walked.tables c.in_ok-walked.ensures)

pub returns : goal.returns
returns c =
    subst (IsPlanOf c.args.program.now)
    (sym (c.of.ensures ∙ c.in_ok-parts.ensures ∙ ap (λ ns. c.in_ok-walked.walked.draft.parts.items ++ views_from c.in_ok-walked.walked.draft.parts.items 0 ns) c.as_slice.ensures.value))
    (plan_is c.args.program.now c.in_ok-walked.walked.draft c.in_ok-walked.walked.nodes.items c.in_ok-walked.walked.shown.items c.in_ok-walked.walked.tables c.in_ok-walked.ensures)
