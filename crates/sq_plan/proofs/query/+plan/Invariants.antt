use Rattle.std.proofs.Common.{take}
use Rattle.sq_plan.specs.Keyed.{IsJoinInSources, IsJoinOf, NewJoins}
use Rattle.sq_plan.specs.Plans.{PlansItems, relation_kinds}
use Rattle.sq_plan.proofs.QueryLoops.{ChainDone, CommonDone}
use Rattle.sq_plan.proofs.query.+plan.Given as goal

-- the members of a chain that are done
abbrev pub invariant-plan_query-loop-step : goal.invariant-plan_query-loop-step
invariant-plan_query-loop-step l = ChainDone l.fn.draft l.relations l.query l.step-items l.draft l.node l.step-index × NewJoins l.fn.draft l.draft (IsJoinOf (relation_kinds l.fn.draft l.relations) l.query)

-- the members of INTERSECT that are done
abbrev pub invariant-plan_query-loop-member : goal.invariant-plan_query-loop-member
invariant-plan_query-loop-member l = CommonDone l.fn.draft l.relations l.query l.member-items l.draft l.found l.member-index × NewJoins l.fn.draft l.draft (IsJoinOf (relation_kinds l.fn.draft l.relations) l.query)

-- the sources that have nodes
abbrev pub invariant-plan_sources-loop-item : goal.invariant-plan_sources-loop-item
invariant-plan_sources-loop-item l = PlansItems l.fn.draft l.draft l.relations l.found.items (take l.item-index l.item-items) × NewJoins l.fn.draft l.draft (IsJoinInSources (relation_kinds l.fn.draft l.relations) l.items)
