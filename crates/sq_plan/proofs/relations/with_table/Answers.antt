use Rattle.std.proofs.Common.{◌+◌, sym, subst, arith}
use Rattle.sq_plan.specs.ProgramWalk.{Walk}
use Rattle.sq_plan.proofs.RelationsWalk.{table_goes}
use Rattle.sq_plan.proofs.relations.with_table.Goals as goal

pub overflow_add-walked : goal.overflow_add-walked
overflow_add-walked c = omega (arith, c.requires.few, c.requires.walk.count)

pub returns : goal.returns
returns c =
    subst (λ ns. Walk c.args.program.now (c.args.i + 1) c.args.walked.draft ns c.args.walked.shown.items (c.args.walked.tables + 1)) (sym c.in_ok-push.ensures.items)
    (table_goes c.args.program.now c.args.i c.args.walked.draft c.args.walked.nodes.items c.args.walked.shown.items c.args.walked.tables c.requires.walk c.args.relation.now c.requires.at c.requires.kind)
