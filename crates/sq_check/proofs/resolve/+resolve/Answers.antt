use Rattle.std.proofs.Common.{refl, ◌∙◌, arith, rules}
use Rattle.sq_check.proofs.QueriesGiven.{stopped, chain_repeats_first, chain_repeats_later, chain_starts, chain_goes, chain_ends, member_repeats, member_goes, member_ends, member_answers, relation_gives, query_gives, query_repeats, no_sources, source_goes, source_repeats_at, sources_end, sources_repeat, block_answers, gives_after}
use Rattle.sq_ast.specs.declared.query.QueryTree.{the_lemmas}
use Rattle.sq_typed.specs.Resolved.{widened}
use Rattle.sq_check.proofs.QueriesSmall.{first_small, rest_small, step_small, members_small, member_small, sources_small, groups_small, query_small, source_small, scope_small}
use Rattle.sq_check.proofs.resolve.+resolve.Goals as goal

pub resolve-returns-in_err-shape-in-Chain : goal.resolve-returns-in_err-shape-in-Chain
resolve-returns-in_err-shape-in-Chain t c =
    stopped _ c.from_residual.result c.in_err-shape-in-Chain.field-0.0 _ _ c.from_residual.ensures.1 (λ y same. same)
    (λ repeated. chain_repeats_first c.args.catalog.now c.args.wanted c.args.query.now c.in-Chain.first c.get-in-Chain.result.now c.in-Chain.rest c.in-Chain.is c.get-in-Chain.ensures (c.in_err-shape-in-Chain.ensures repeated))

pub resolve-loop-step-init : goal.resolve-loop-step-init
resolve-loop-step-init t c =
    chain_starts c.args.catalog.now c.args.wanted c.args.query.now c.in-Chain.first c.get-in-Chain.result.now c.in-Chain.rest c.as_slice-step-items.result.now _ _ _ c.in-Chain.is c.get-in-Chain.ensures c.as_slice-step-items.ensures (c.in_ok-shape-in-Chain.ensures)

pub resolve-returns-in_err-shape-in-Chain-2 : goal.resolve-returns-in_err-shape-in-Chain-2
resolve-returns-in_err-shape-in-Chain-2 t c =
    stopped _ c.from_residual-in_err-shape-in-Chain-2.result c.in_err-shape-in-Chain-2.field-0.0 _ _ c.from_residual-in_err-shape-in-Chain-2.ensures.1 (λ y same. same)
    (λ repeated. chain_repeats_later c.args.catalog.now c.args.wanted c.args.query.now c.loop-step.invariant.first c.as_slice-step-items.result.now c.loop-step.step-index c.step-item.result c.loop-step.invariant.chain (omega arith) c.step-item.is (c.in_err-shape-in-Chain-2.ensures repeated))

pub resolve-loop-step-preserved : goal.resolve-loop-step-preserved
resolve-loop-step-preserved t c =
    chain_goes c.args.catalog.now c.args.wanted c.args.query.now c.as_slice-step-items.result.now c.loop-step.step-index c.step-item.result _ _ _ _ _ (omega arith) c.step-item.is c.loop-step.invariant (c.in_ok-shape-in-Chain-2.ensures)

pub resolve-returns-after-loop-step : goal.resolve-returns-after-loop-step
resolve-returns-after-loop-step t c = chain_ends c.args.catalog.now c.args.wanted c.args.query.now c.as_slice-step-items.result.now c.loop-step.step-index _ _ _ (omega arith) c.loop-step.invariant

pub resolve-loop-member-init : goal.resolve-loop-member-init
resolve-loop-member-init t c = (refl, refl)

pub resolve-returns-in_err-resolve_member-in-Intersect :
    goal.resolve-returns-in_err-resolve_member-in-Intersect
resolve-returns-in_err-resolve_member-in-Intersect t c =
    stopped _ c.from_residual-in_err-resolve_member-in-Intersect.result c.in_err-resolve_member-in-Intersect.field-0.0 _ _ c.from_residual-in_err-resolve_member-in-Intersect.ensures.1 (λ y same. same)
    (λ repeated. member_repeats c.args.catalog.now c.args.wanted c.args.query.now c.in-Intersect.members c.as_slice-member-items.result.now c.loop-member.member-index c.member-item.result _ _ c.loop-member.found c.in-Intersect.is c.as_slice-member-items.ensures (omega arith) c.member-item.is c.loop-member.invariant (c.in_err-resolve_member-in-Intersect.ensures repeated))

pub resolve-loop-member-preserved : goal.resolve-loop-member-preserved
resolve-loop-member-preserved t c =
    member_goes c.args.catalog.now c.args.wanted c.as_slice-member-items.result.now c.loop-member.member-index c.member-item.result _ _ _ c.loop-member.found c.in_ok-resolve_member-in-Intersect.field-0 (omega arith) c.member-item.is c.loop-member.invariant (c.in_ok-resolve_member-in-Intersect.ensures)

pub resolve-returns-after-loop-member : goal.resolve-returns-after-loop-member
resolve-returns-after-loop-member t c = rw c.unwrap_or.ensures (member_ends c.args.catalog.now c.args.wanted c.args.query.now c.in-Intersect.members c.as_slice-member-items.result.now c.loop-member.member-index _ _ c.loop-member.found c.empty.result c.in-Intersect.is c.as_slice-member-items.ensures (omega arith) c.empty.ensures c.loop-member.invariant)

pub resolve_block-returns-in_err-scope : goal.resolve_block-returns-in_err-scope
resolve_block-returns-in_err-scope t c =
    stopped _ c.from_residual.result c.in_err-scope.field-0.0 _ _ c.from_residual.ensures.1 (λ y same. same)
    (λ repeated. sources_repeat c.args.catalog.now c.args.wanted c.args.block.now (c.in_err-scope.ensures repeated))

pub resolve_block-returns : goal.resolve_block-returns
resolve_block-returns t c =
    block_answers c.args.catalog.now c.args.wanted c.args.block.now c.in_ok-scope.scope _ _ _ c.block_shape.result (c.in_ok-scope.ensures) (c.in_ok-note_block.ensures) c.block_shape.ensures

pub resolve_further-returns : goal.resolve_further-returns
resolve_further-returns t c =
    gives_after c.args.catalog.now c.args.query.now _ _ c.note_operand.new.self c.args.before c.in_ok-other.other c.len.result c.in_ok-columns.columns c.len.ensures c.in_ok-other.ensures c.note_operand.ensures (c.in_ok-columns.ensures ∙ (λ i. widened (c.as_slice.ensures i) (c.as_slice-2.ensures i)))

pub resolve_member-returns-in-Some : goal.resolve_member-returns-in-Some
resolve_member-returns-in-Some t c =
    member_answers c.args.catalog.now c.args.wanted c.args.query.now _ _ c.in-Some.shape c.args.before c.resolve_further.result c.in-Some.is c.resolve_further.ensures

pub resolve_source-returns-in_err-shape-in-Query :
    goal.resolve_source-returns-in_err-shape-in-Query
resolve_source-returns-in_err-shape-in-Query t c =
    stopped _ c.from_residual.result c.in_err-shape-in-Query.field-0.0 _ _ c.from_residual.ensures.1 (λ y same. same)
    (λ repeated. query_repeats c.args.catalog.now c.args.source.now c.in-Query.query c.get.result.now c.in-Query.alias c.in-Query.is c.get.ensures (c.in_err-shape-in-Query.ensures repeated))

pub resolve_source-returns-in-Relation : goal.resolve_source-returns-in-Relation
resolve_source-returns-in-Relation t c =
    relation_gives c.args.catalog.now c.args.source.now c.in-Relation.name c.in-Relation.alias c.args.findings.now c.new.result c.in-Relation.is (c.new.ensures ∙ (λ i. record { name = c.source_name.ensures i; columns = c.columns_named.ensures i }))

pub resolve_source-returns-in_ok-shape-in-Query : goal.resolve_source-returns-in_ok-shape-in-Query
resolve_source-returns-in_ok-shape-in-Query t c =
    query_gives c.args.catalog.now c.args.source.now c.in-Query.query c.get.result.now c.in-Query.alias _ _ c.in_ok-shape-in-Query.shape c.new-in-Query.result c.in-Query.is c.get.ensures (c.in_ok-shape-in-Query.ensures) c.new-in-Query.ensures

pub resolve_sources-loop-joined-init : goal.resolve_sources-loop-joined-init
resolve_sources-loop-joined-init t c = no_sources c.args.catalog.now c.args.findings.now c.new-found.result.items c.new-found.ensures.items

pub resolve_sources-returns-in_err-source : goal.resolve_sources-returns-in_err-source
resolve_sources-returns-in_err-source t c =
    stopped _ c.from_residual.result c.in_err-source.field-0.0 _ _ c.from_residual.ensures.1 (λ y same. same)
    (λ repeated. source_repeats_at c.args.catalog.now c.args.sources.now c.as_slice-joined-items.result.now c.loop-joined.joined-index c.joined-item.result c.as_slice-joined-items.ensures (omega arith) c.joined-item.is (c.in_err-source.ensures repeated))

pub resolve_sources-loop-joined-preserved : goal.resolve_sources-loop-joined-preserved
resolve_sources-loop-joined-preserved t c =
    source_goes c.args.catalog.now c.as_slice-joined-items.result.now c.loop-joined.joined-index c.joined-item.result _ _ _ c.loop-joined.found.items c.push.new.self.items c.in_ok-source.source (omega arith) c.joined-item.is c.loop-joined.invariant (c.in_ok-source.ensures) (search rules)

pub resolve_sources-returns : goal.resolve_sources-returns
resolve_sources-returns t c =
    sources_end c.args.catalog.now c.args.sources.now c.as_slice-joined-items.result.now c.loop-joined.joined-index _ _ c.loop-joined.found.items c.in_ok-of.field-0 c.as_slice-joined-items.ensures (omega arith) c.loop-joined.invariant (c.in_ok-of.ensures)

-- ---- the parts are small

pub resolve-resolve-requires : goal.resolve-resolve-requires
resolve-resolve-requires t c = (search (rules, the_lemmas), first_small c.args.catalog.now c.args.query.now c.in-Chain.first c.get-in-Chain.result.now c.in-Chain.rest c.in-Chain.is c.get-in-Chain.ensures c.requires)

pub resolve-resolve_further-requires : goal.resolve-resolve_further-requires
resolve-resolve_further-requires t c = (
  search (rules, the_lemmas),
  step_small c.args.catalog.now c.in-Chain.rest c.as_slice-step-items.result.now c.loop-step.step-index c.step-item.result c.as_slice-step-items.ensures (omega arith) c.step-item.is
      (rest_small c.args.catalog.now c.args.query.now c.in-Chain.first c.in-Chain.rest c.in-Chain.is c.requires),
)

pub resolve-resolve_member-requires : goal.resolve-resolve_member-requires
resolve-resolve_member-requires t c = (
  search (rules, the_lemmas),
  member_small c.args.catalog.now c.in-Intersect.members c.as_slice-member-items.result.now c.loop-member.member-index c.member-item.result c.as_slice-member-items.ensures (omega arith) c.member-item.is
      (members_small c.args.catalog.now c.args.query.now c.in-Intersect.members c.in-Intersect.is c.requires),
)

pub resolve_block-resolve_sources-requires : goal.resolve_block-resolve_sources-requires
resolve_block-resolve_sources-requires t c = (search (rules, the_lemmas), sources_small c.args.catalog.now c.args.block.now c.requires)

pub resolve_block-note_block-requires : goal.resolve_block-note_block-requires
resolve_block-note_block-requires t c = groups_small c.args.catalog.now c.args.block.now c.requires

pub resolve_block-block_shape-requires : goal.resolve_block-block_shape-requires
resolve_block-block_shape-requires t c = groups_small c.args.catalog.now c.args.block.now c.requires

pub resolve_source-resolve-requires : goal.resolve_source-resolve-requires
resolve_source-resolve-requires t c = (search (rules, the_lemmas), query_small c.args.catalog.now c.args.source.now c.in-Query.query c.get.result.now c.in-Query.alias c.in-Query.is c.get.ensures c.requires)

pub resolve_sources-resolve_source-requires : goal.resolve_sources-resolve_source-requires
resolve_sources-resolve_source-requires t c = (search (rules, the_lemmas), source_small c.args.catalog.now c.args.sources.now c.as_slice-joined-items.result.now c.loop-joined.joined-index c.joined-item.result c.as_slice-joined-items.ensures (omega arith) c.joined-item.is c.requires)

pub resolve_sources-of-requires : goal.resolve_sources-of-requires
resolve_sources-of-requires t c = record { few = scope_small c.args.catalog.now c.args.sources.now c.as_slice-joined-items.result.now c.loop-joined.joined-index _ _ c.loop-joined.found.items c.as_slice-joined-items.ensures (omega arith) c.loop-joined.invariant c.requires }
