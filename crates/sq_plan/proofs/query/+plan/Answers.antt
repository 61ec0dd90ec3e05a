use Rattle.std.proofs.Common.{[], rules, refl, sym, subst}
use Rattle.std.proofs.lemmas.Option.{slice_get_read}
use Rattle.sq_typed.specs.declared.query.Block.{out-Block}
use Rattle.sq_typed.specs.declared.query.Origin.{the_lemmas}
use Rattle.sq_plan.specs.Keyed.{IsJoinInOrigin, IsJoinInSources, IsJoinOf}
use Rattle.sq_plan.specs.Plans.{Plans, PlansItems, relation_kinds}
use Rattle.sq_plan.proofs.BlockPlans.{block_groups, block_items, block_joins, block_narrow, block_plans, block_room, sources_can}
use Rattle.sq_plan.proofs.KeyedQueries.{block_joined, chain_joins_begin, chain_joins_more, common_joins_more, origin_joins, sources_joins_more}
use Rattle.sq_plan.proofs.KeyedSteps.{nothing_joined}
use Rattle.sq_plan.proofs.Planning.{query_can, query_plans, relation_plans, relation_there, sources_begin}
use Rattle.sq_plan.proofs.QueryLoops.{chain_begins, chain_goes_on, chain_is_done, common_begins, common_is_done, common_more_done, first_can, item_can, item_goes_on, later_alike, later_can, later_left, later_narrow, later_room, member_can_be, member_meets, ok_more}
use Rattle.sq_plan.proofs.query.+plan.Goals as goal

-- ---- blocks

pub plan_block-plan_sources-requires : goal.plan_block-plan_sources-requires
plan_block-plan_sources-requires t c = (search (rules, the_lemmas), sources_can c.args.draft.now c.args.relations.now c.args.block.now c.requires)

pub plan_block-block-requires-clause-room : goal.plan_block-block-requires-clause-room
plan_block-block-requires-clause-room t c = block_room c.args.draft.now c.args.relations.now c.args.block.now c.requires c.plan_sources.new.draft c.deref.result.now
    (subst (λ is. PlansItems c.args.draft.now c.plan_sources.new.draft c.args.relations.now is (out-Block c.args.block.now).sources) (sym c.deref.ensures.value) c.in_ok-sources.ensures.plans)

pub plan_block-block-requires-clause-joins : goal.plan_block-block-requires-clause-joins
plan_block-block-requires-clause-joins t c = block_joins c.args.draft.now c.args.relations.now c.args.block.now c.requires c.plan_sources.new.draft c.deref.result.now
    (subst (λ is. PlansItems c.args.draft.now c.plan_sources.new.draft c.args.relations.now is (out-Block c.args.block.now).sources) (sym c.deref.ensures.value) c.in_ok-sources.ensures.plans)

pub plan_block-block-requires-clause-groups : goal.plan_block-block-requires-clause-groups
plan_block-block-requires-clause-groups t c = block_groups c.args.draft.now c.args.relations.now c.args.block.now c.requires c.plan_sources.new.draft c.deref.result.now
    (subst (λ is. PlansItems c.args.draft.now c.plan_sources.new.draft c.args.relations.now is (out-Block c.args.block.now).sources) (sym c.deref.ensures.value) c.in_ok-sources.ensures.plans)

pub plan_block-block-requires-clause-narrow : goal.plan_block-block-requires-clause-narrow
plan_block-block-requires-clause-narrow t c = block_narrow c.args.draft.now c.args.relations.now c.args.block.now c.requires c.plan_sources.new.draft c.deref.result.now
    (subst (λ is. PlansItems c.args.draft.now c.plan_sources.new.draft c.args.relations.now is (out-Block c.args.block.now).sources) (sym c.deref.ensures.value) c.in_ok-sources.ensures.plans)

pub plan_block-block-requires-clause-items : goal.plan_block-block-requires-clause-items
plan_block-block-requires-clause-items t c = block_items c.args.draft.now c.args.relations.now c.args.block.now c.requires c.plan_sources.new.draft c.deref.result.now
    (subst (λ is. PlansItems c.args.draft.now c.plan_sources.new.draft c.args.relations.now is (out-Block c.args.block.now).sources) (sym c.deref.ensures.value) c.in_ok-sources.ensures.plans)

pub plan_block-returns-clause-plans : goal.plan_block-returns-clause-plans
plan_block-returns-clause-plans t c = ok_more c.block.result (block_plans c.args.draft.now c.args.relations.now c.args.block.now c.requires c.plan_sources.new.draft c.deref.result.now
    (subst (λ is. PlansItems c.args.draft.now c.plan_sources.new.draft c.args.relations.now is (out-Block c.args.block.now).sources) (sym c.deref.ensures.value) c.in_ok-sources.ensures.plans) c.block.new.self) c.block.ensures.adds

pub plan_block-returns-clause-keyed : goal.plan_block-returns-clause-keyed
plan_block-returns-clause-keyed t c = ok_more c.block.result (λ i. block_joined c.args.draft.now c.args.relations.now c.requires.are c.args.block.now c.plan_sources.new.draft c.deref.result.now
    (subst (λ is. PlansItems c.args.draft.now c.plan_sources.new.draft c.args.relations.now is (out-Block c.args.block.now).sources) (sym c.deref.ensures.value) c.in_ok-sources.ensures.plans) c.block.new.self c.in_ok-sources.ensures.keyed) c.block.ensures.keyed

-- ---- sources

pub plan_origin-bounds-relations-number : goal.plan_origin-bounds-relations-number
plan_origin-bounds-relations-number t c = relation_there c.args.draft.now c.args.relations.now c.args.origin.now c.requires c.in-Relation.number c.in-Relation.is

pub plan_origin-plan_query-requires : goal.plan_origin-plan_query-requires
plan_origin-plan_query-requires t c = (search (rules, the_lemmas), query_can c.args.draft.now c.args.relations.now c.args.origin.now c.requires c.in-Query.query c.in-Query.is)

pub plan_origin-returns-in-Relation-clause-plans : goal.plan_origin-returns-in-Relation-clause-plans
plan_origin-returns-in-Relation-clause-plans t c = relation_plans c.args.draft.now c.args.relations.now c.args.origin.now c.requires c.in-Relation.number 0 c.in-Relation.is

pub plan_origin-returns-in-Relation-clause-keyed : goal.plan_origin-returns-in-Relation-clause-keyed
plan_origin-returns-in-Relation-clause-keyed t c = nothing_joined c.args.draft.now (IsJoinInOrigin (relation_kinds c.args.draft.now c.args.relations.now) c.args.origin.now)

pub plan_origin-returns-in-Query-clause-plans : goal.plan_origin-returns-in-Query-clause-plans
plan_origin-returns-in-Query-clause-plans t c = ok_more c.plan_query.result (λ i. query_plans c.args.draft.now c.args.relations.now c.args.origin.now c.requires c.plan_query.new.draft c.in-Query.query i c.in-Query.is) c.plan_query.ensures.plans

pub plan_origin-returns-in-Query-clause-keyed : goal.plan_origin-returns-in-Query-clause-keyed
plan_origin-returns-in-Query-clause-keyed t c = ok_more c.plan_query.result (λ i. origin_joins c.args.draft.now c.args.relations.now c.requires.are c.args.origin.now c.in-Query.query c.plan_query.new.draft c.in-Query.is) c.plan_query.ensures.keyed

pub plan_sources-loop-item-init : goal.plan_sources-loop-item-init
plan_sources-loop-item-init t c = (
  subst (λ is. PlansItems c.args.draft.now c.args.draft.now c.args.relations.now is []) (sym c.new-found.ensures.items) (sources_begin c.args.draft.now c.args.relations.now c.requires.room.draft),
  nothing_joined c.args.draft.now (IsJoinInSources (relation_kinds c.args.draft.now c.args.relations.now) c.args.items.now),
)

pub plan_sources-plan_origin-requires : goal.plan_sources-plan_origin-requires
plan_sources-plan_origin-requires t c = (
  search (rules, the_lemmas),
  item_can c.args.draft.now c.args.relations.now c.args.items.now c.as_slice-item-items.result.now c.requires c.as_slice-item-items.ensures c.loop-item.draft c.loop-item.found.items c.loop-item.item-index c.loop-item.invariant.0 c.item-item.result
      (slice_get_read c.as_slice-item-items.result.now _ c.loop-item.item-index c.item-item.result refl c.loop-item-test.true c.item-item.is),
)

pub plan_sources-loop-item-preserved : goal.plan_sources-loop-item-preserved
plan_sources-loop-item-preserved t c = (
  item_goes_on c.args.draft.now c.args.relations.now c.args.items.now c.as_slice-item-items.result.now c.requires c.as_slice-item-items.ensures c.loop-item.draft c.loop-item.found.items c.loop-item.item-index c.loop-item.invariant.0 c.item-item.result
      (slice_get_read c.as_slice-item-items.result.now _ c.loop-item.item-index c.item-item.result refl c.loop-item-test.true c.item-item.is) c.plan_origin.new.draft c.in_ok-node.node c.in_ok-node.ensures.plans c.push.new.self.items (search rules),
  sources_joins_more c.args.draft.now c.args.relations.now c.requires.are c.args.items.now c.as_slice-item-items.result.now c.loop-item.item-index c.item-item.result c.as_slice-item-items.ensures (slice_get_read c.as_slice-item-items.result.now _ c.loop-item.item-index c.item-item.result refl c.loop-item-test.true c.item-item.is)
      c.loop-item.draft c.plan_origin.new.draft c.loop-item.invariant.1 c.in_ok-node.ensures.keyed,
)

-- ---- chains

pub plan_query-plan_query-requires : goal.plan_query-plan_query-requires
plan_query-plan_query-requires t c = (search (rules, the_lemmas), first_can c.args.draft.now c.args.relations.now c.args.query.now c.requires c.in-Chain.first c.in-Chain.rest c.get-in-Chain.result.now c.in-Chain.is c.get-in-Chain.ensures)

pub plan_query-loop-step-init : goal.plan_query-loop-step-init
plan_query-loop-step-init t c = (
  chain_begins c.args.draft.now c.args.relations.now c.args.query.now c.requires c.in-Chain.first c.in-Chain.rest c.get-in-Chain.result.now c.as_slice-step-items.result.now c.in-Chain.is c.get-in-Chain.ensures c.as_slice-step-items.ensures
      c.plan_query.new.draft c.in_ok-node-in-Chain.node c.in_ok-node-in-Chain.ensures.plans,
  chain_joins_begin c.args.draft.now c.args.relations.now c.requires.are c.args.query.now c.in-Chain.first c.get-in-Chain.result.now c.in-Chain.rest c.plan_query.new.draft c.in-Chain.is c.get-in-Chain.ensures c.in_ok-node-in-Chain.ensures.keyed,
)

pub plan_query-plan_query-requires-in-loop-step : goal.plan_query-plan_query-requires-in-loop-step
plan_query-plan_query-requires-in-loop-step t c = (
  search (rules, the_lemmas),
  later_can c.args.draft.now c.args.relations.now c.args.query.now c.requires c.as_slice-step-items.result.now c.loop-step.draft c.loop-step.node c.loop-step.step-index c.loop-step.invariant.0 c.step-item.result
      (slice_get_read c.as_slice-step-items.result.now _ c.loop-step.step-index c.step-item.result refl c.loop-step-test.true c.step-item.is),
)

pub plan_query-set_step-requires-clause-room : goal.plan_query-set_step-requires-clause-room
plan_query-set_step-requires-clause-room t c = later_room c.args.draft.now c.args.relations.now c.args.query.now c.requires c.as_slice-step-items.result.now c.loop-step.draft c.loop-step.node c.loop-step.step-index c.loop-step.invariant.0 c.step-item.result
    (slice_get_read c.as_slice-step-items.result.now _ c.loop-step.step-index c.step-item.result refl c.loop-step-test.true c.step-item.is) c.plan_query-in-loop-step.new.draft c.in_ok-more-in-Chain.more c.in_ok-more-in-Chain.ensures.plans

pub plan_query-set_step-requires-clause-low_left : goal.plan_query-set_step-requires-clause-low_left
plan_query-set_step-requires-clause-low_left t c = later_left c.args.draft.now c.args.relations.now c.args.query.now c.requires c.as_slice-step-items.result.now c.loop-step.draft c.loop-step.node c.loop-step.step-index c.loop-step.invariant.0 c.step-item.result
    (slice_get_read c.as_slice-step-items.result.now _ c.loop-step.step-index c.step-item.result refl c.loop-step-test.true c.step-item.is) c.plan_query-in-loop-step.new.draft c.in_ok-more-in-Chain.more c.in_ok-more-in-Chain.ensures.plans

pub plan_query-set_step-requires-clause-alike : goal.plan_query-set_step-requires-clause-alike
plan_query-set_step-requires-clause-alike t c = later_alike c.args.draft.now c.args.relations.now c.args.query.now c.requires c.as_slice-step-items.result.now c.loop-step.draft c.loop-step.node c.loop-step.step-index c.loop-step.invariant.0 c.step-item.result
    (slice_get_read c.as_slice-step-items.result.now _ c.loop-step.step-index c.step-item.result refl c.loop-step-test.true c.step-item.is) c.plan_query-in-loop-step.new.draft c.in_ok-more-in-Chain.more c.in_ok-more-in-Chain.ensures.plans

pub plan_query-set_step-requires-clause-narrow : goal.plan_query-set_step-requires-clause-narrow
plan_query-set_step-requires-clause-narrow t c = later_narrow c.args.draft.now c.args.relations.now c.args.query.now c.requires c.as_slice-step-items.result.now c.loop-step.draft c.loop-step.node c.loop-step.step-index c.loop-step.invariant.0 c.step-item.result
    (slice_get_read c.as_slice-step-items.result.now _ c.loop-step.step-index c.step-item.result refl c.loop-step-test.true c.step-item.is) c.plan_query-in-loop-step.new.draft c.in_ok-more-in-Chain.more c.in_ok-more-in-Chain.ensures.plans

pub plan_query-loop-step-preserved : goal.plan_query-loop-step-preserved
plan_query-loop-step-preserved t c = (
  chain_goes_on c.args.draft.now c.args.relations.now c.args.query.now c.requires c.as_slice-step-items.result.now c.loop-step.draft c.loop-step.node c.loop-step.step-index c.loop-step.invariant.0 c.step-item.result
      (slice_get_read c.as_slice-step-items.result.now _ c.loop-step.step-index c.step-item.result refl c.loop-step-test.true c.step-item.is) c.plan_query-in-loop-step.new.draft c.in_ok-more-in-Chain.more c.in_ok-more-in-Chain.ensures.plans
      c.set_step.new.self c.in_ok-node-in-Chain-2.node c.in_ok-node-in-Chain-2.ensures.adds,
  chain_joins_more c.args.draft.now c.args.relations.now c.requires.are c.args.query.now c.loop-step.invariant.0.first c.as_slice-step-items.result.now c.loop-step.step-index c.step-item.result c.loop-step.invariant.0.is (slice_get_read c.as_slice-step-items.result.now _ c.loop-step.step-index c.step-item.result refl c.loop-step-test.true c.step-item.is)
      c.loop-step.draft c.plan_query-in-loop-step.new.draft c.set_step.new.self c.loop-step.invariant.1 c.in_ok-more-in-Chain.ensures.keyed c.in_ok-node-in-Chain-2.ensures.keyed,
)

pub plan_query-returns-after-loop-step-clause-plans : goal.plan_query-returns-after-loop-step-clause-plans
plan_query-returns-after-loop-step-clause-plans t c = chain_is_done c.args.draft.now c.args.relations.now c.args.query.now c.requires c.as_slice-step-items.result.now c.loop-step.draft c.loop-step.node c.loop-step.step-index c.loop-step.invariant.0 c.loop-step-test.false

-- ---- INTERSECT

pub plan_query-loop-member-init : goal.plan_query-loop-member-init
plan_query-loop-member-init t c = (
  common_begins c.args.draft.now c.args.relations.now c.args.query.now c.in-Intersect.members c.as_slice-member-items.result.now c.in-Intersect.is c.as_slice-member-items.ensures,
  nothing_joined c.args.draft.now (IsJoinOf (relation_kinds c.args.draft.now c.args.relations.now) c.args.query.now),
)

pub plan_query-plan_query-requires-in-loop-member : goal.plan_query-plan_query-requires-in-loop-member
plan_query-plan_query-requires-in-loop-member t c = (
  search (rules, the_lemmas),
  member_can_be c.args.draft.now c.args.relations.now c.args.query.now c.requires c.as_slice-member-items.result.now c.loop-member.draft c.loop-member.found c.loop-member.member-index c.loop-member.invariant.0 c.member-item.result
      (slice_get_read c.as_slice-member-items.result.now _ c.loop-member.member-index c.member-item.result refl c.loop-member-test.true c.member-item.is),
)

pub plan_query-meet-requires : goal.plan_query-meet-requires
plan_query-meet-requires t c = member_meets c.args.draft.now c.args.relations.now c.args.query.now c.requires c.as_slice-member-items.result.now c.loop-member.draft c.loop-member.found c.loop-member.member-index c.loop-member.invariant.0 c.member-item.result
    (slice_get_read c.as_slice-member-items.result.now _ c.loop-member.member-index c.member-item.result refl c.loop-member-test.true c.member-item.is) c.plan_query-in-loop-member.new.draft c.in_ok-more-in-Intersect.more c.in_ok-more-in-Intersect.ensures.plans

pub plan_query-loop-member-preserved : goal.plan_query-loop-member-preserved
plan_query-loop-member-preserved t c = (
  common_more_done c.args.draft.now c.args.relations.now c.args.query.now c.requires c.as_slice-member-items.result.now c.loop-member.draft c.loop-member.found c.loop-member.member-index c.loop-member.invariant.0 c.member-item.result
      (slice_get_read c.as_slice-member-items.result.now _ c.loop-member.member-index c.member-item.result refl c.loop-member-test.true c.member-item.is) c.plan_query-in-loop-member.new.draft c.in_ok-more-in-Intersect.more c.in_ok-more-in-Intersect.ensures.plans c.meet.new.self c.in_ok-meet-in-Intersect.field-0 c.in_ok-meet-in-Intersect.ensures.meets,
  common_joins_more c.args.draft.now c.args.relations.now c.requires.are c.args.query.now c.as_slice-member-items.result.now c.loop-member.member-index c.member-item.result c.loop-member.invariant.0.is (slice_get_read c.as_slice-member-items.result.now _ c.loop-member.member-index c.member-item.result refl c.loop-member-test.true c.member-item.is)
      c.loop-member.draft c.plan_query-in-loop-member.new.draft c.meet.new.self c.loop-member.invariant.1 c.in_ok-more-in-Intersect.ensures.keyed c.in_ok-meet-in-Intersect.ensures.keyed,
)

pub plan_query-returns-after-loop-member-clause-plans : goal.plan_query-returns-after-loop-member-clause-plans
plan_query-returns-after-loop-member-clause-plans t c = subst (Plans c.args.draft.now c.loop-member.draft c.args.relations.now c.args.query.now) (sym c.unwrap_or.ensures) (common_is_done c.args.draft.now c.args.relations.now c.args.query.now c.requires c.as_slice-member-items.result.now c.loop-member.draft c.loop-member.found c.loop-member.member-index c.loop-member.invariant.0 c.loop-member-test.false)
