use Rattle.std.proofs.Common.{◌+◌, ◌++◌, ◌∷◌, [], sym, subst, arith}
use Rattle.sq_plan.specs.Keyed.{IsJoinOf, NewJoins}
use Rattle.sq_plan.specs.Plans.{CanPlan, Plans, relation_kinds}
use Rattle.sq_plan.specs.ProgramWalk.{Walk}
use Rattle.sq_plan.proofs.RelationsWalk.{view_can, view_goes, view_there}
use Rattle.sq_plan.proofs.relations.with_view.Goals as goal

pub query-query-requires : goal.query-query-requires
query-query-requires c = view_there c.args.program.now c.args.i c.args.walked.draft c.args.walked.nodes.items c.args.walked.shown.items c.args.walked.tables c.requires.walk c.args.relation.now c.requires.at c.requires.kind

pub plan_query-requires : goal.plan_query-requires
plan_query-requires c =
    subst (λ ns. CanPlan c.args.walked.draft ns c.query-query.result.now) (sym c.as_slice.ensures.value)
    (view_can c.args.program.now c.args.i c.args.walked.draft c.args.walked.nodes.items c.args.walked.shown.items c.args.walked.tables c.requires.walk c.args.relation.now c.requires.at c.requires.kind c.query-query.result.now c.query-query.ensures.query)

pub overflow_add-walked : goal.overflow_add-walked
overflow_add-walked c = omega (arith, c.requires.few, c.requires.walk.count, c.in_ok-node.ensures.plans.becomes.adds.view)

pub returns : goal.returns
returns c =
    subst (λ ns. Walk c.args.program.now (c.args.i + 1) (record { parts = c.plan_query.new.draft.parts; view = c.plan_query.new.draft.view + 1 }) ns c.push-2.new.self.items c.args.walked.tables) (sym c.in_ok-push.ensures.items)
    (subst (λ ns. Walk c.args.program.now (c.args.i + 1) (record { parts = c.plan_query.new.draft.parts; view = c.plan_query.new.draft.view + 1 }) (c.args.walked.nodes.items ++ c.in_ok-node.node ∷ []) ns c.args.walked.tables) (sym c.in_ok-push-2.ensures.items)
    (view_goes c.args.program.now c.args.i c.args.walked.draft c.args.walked.nodes.items c.args.walked.shown.items c.args.walked.tables c.requires.walk c.args.relation.now c.requires.at c.requires.kind c.query-query.result.now c.query-query.ensures.query
    c.plan_query.new.draft c.in_ok-node.node (subst (λ ns. Plans c.args.walked.draft c.plan_query.new.draft ns c.query-query.result.now c.in_ok-node.node) c.as_slice.ensures.value c.in_ok-node.ensures.plans)
    (subst (λ ns. NewJoins c.args.walked.draft c.plan_query.new.draft (IsJoinOf (relation_kinds c.args.walked.draft ns) c.query-query.result.now)) c.as_slice.ensures.value c.in_ok-node.ensures.keyed)))
