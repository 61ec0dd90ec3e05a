use Rattle.std.proofs.Common.{◌∙◌, arith, rules}
use Rattle.sq_check.proofs.QueriesTypedLemmas.{chain_answers, members_typed, relation_typed, query_typed, sources_go, block_typed}
use Rattle.sq_ast.specs.declared.query.QueryTree.{the_lemmas}
use Rattle.sq_check.proofs.QueriesSmall.{first_small, rest_small, step_small, members_small, member_small, sources_small, groups_small, query_small, source_small, typed_scope_small, first_apart, rest_apart, step_apart, members_apart, member_apart, sources_apart, source_apart, query_apart}
use Rattle.sq_check.proofs.typed.+typed.Goals as goal

pub typed_members-returns : goal.typed_members-returns
typed_members-returns t c =
    members_typed c.args.catalog.now c.args.members.now c.as_slice-member-items.result.now c.loop-member.member-index c.loop-member.columns c.new.result c.unwrap_or-columns.result c.loop-member.queries
    c.as_slice-member-items.ensures (omega arith) c.new.ensures c.unwrap_or-columns.ensures c.loop-member.invariant.columns c.loop-member.invariant.queries

pub typed_query-returns-in_ok-first-in-Chain : goal.typed_query-returns-in_ok-first-in-Chain
typed_query-returns-in_ok-first-in-Chain t c =
    chain_answers c.args.catalog.now c.args.query.now c.get-in-Chain.result.now c.in-Chain.first c.in-Chain.rest c.in_ok-first-in-Chain.first c.typed_chain.result c.in-Chain.is c.get-in-Chain.ensures c.in_ok-first-in-Chain.ensures c.typed_chain.ensures.columns c.typed_chain.ensures.query

pub typed_select-returns : goal.typed_select-returns
typed_select-returns t c =
    block_typed c.args.catalog.now c.args.block.now c.in_ok-scope.scope c.in_ok-scope.origins c.in_ok-sources.sources _ c.in_ok-scope.ensures c.in_ok-sources.ensures c.in_ok-query.ensures c.in_ok-columns.ensures

pub typed_source-returns-in-Relation : goal.typed_source-returns-in-Relation
typed_source-returns-in-Relation t c =
    relation_typed c.args.catalog.now c.args.source.now c.in-Relation.name c.in-Relation.alias c.new-source.result c.number_named.result c.in-Relation.is (c.new-source.ensures ∙ (λ i. record { name = c.source_name.ensures i; columns = c.columns_named.ensures i })) c.number_named.ensures

pub typed_source-returns-in_ok-typed-in-Query : goal.typed_source-returns-in_ok-typed-in-Query
typed_source-returns-in_ok-typed-in-Query t c =
    query_typed c.args.catalog.now c.args.source.now c.in-Query.query c.get.result.now c.in-Query.alias c.in_ok-typed-in-Query.typed c.new-source-in-Query.result c.in-Query.is c.get.ensures c.in_ok-typed-in-Query.ensures c.new-source-in-Query.ensures

pub typed_sources-loop-joined-preserved : goal.typed_sources-loop-joined-preserved
typed_sources-loop-joined-preserved t c =
    sources_go c.args.catalog.now c.as_slice-joined-items.result.now c.loop-joined.joined-index c.joined-item.result c.loop-joined.found.items c.push.new.self.items c.loop-joined.origins c.push-in-loop-joined.new.self c.in_ok-source.source c.in_ok-source.origin
    (omega arith) c.joined-item.is c.loop-joined.invariant c.in_ok-source.ensures (search rules) (search rules)

-- ---- the parts are small, and no name stands twice in them

pub typed_query-typed_query-requires : goal.typed_query-typed_query-requires
typed_query-typed_query-requires t c = (
  search (rules, the_lemmas),
  record {
    small = first_small c.args.catalog.now c.args.query.now c.in-Chain.first c.get-in-Chain.result.now c.in-Chain.rest c.in-Chain.is c.get-in-Chain.ensures c.requires.small;
    apart = first_apart c.args.catalog.now c.args.query.now c.in-Chain.first c.get-in-Chain.result.now c.in-Chain.rest c.in-Chain.is c.get-in-Chain.ensures c.requires.apart;
  },
)

pub typed_query-typed_chain-requires : goal.typed_query-typed_chain-requires
typed_query-typed_chain-requires t c = (
  search (rules, the_lemmas),
  record {
    small = rest_small c.args.catalog.now c.args.query.now c.in-Chain.first c.in-Chain.rest c.in-Chain.is c.requires.small;
    apart = rest_apart c.args.catalog.now c.args.query.now c.in-Chain.first c.in-Chain.rest c.in-Chain.is c.requires.apart;
  },
)

pub typed_query-typed_members-requires : goal.typed_query-typed_members-requires
typed_query-typed_members-requires t c = (
  search (rules, the_lemmas),
  record {
    small = members_small c.args.catalog.now c.args.query.now c.in-Intersect.members c.in-Intersect.is c.requires.small;
    apart = members_apart c.args.catalog.now c.args.query.now c.in-Intersect.members c.in-Intersect.is c.requires.apart;
  },
)

pub typed_chain-typed_query-requires : goal.typed_chain-typed_query-requires
typed_chain-typed_query-requires t c = (
  search (rules, the_lemmas),
  record {
    small = step_small c.args.catalog.now c.args.rest.now c.as_slice-step-items.result.now c.loop-step.step-index c.step-item.result c.as_slice-step-items.ensures (omega arith) c.step-item.is c.requires.small;
    apart = step_apart c.args.catalog.now c.args.rest.now c.as_slice-step-items.result.now c.loop-step.step-index c.step-item.result c.as_slice-step-items.ensures (omega arith) c.step-item.is c.requires.apart;
  },
)

pub typed_members-typed_query-requires : goal.typed_members-typed_query-requires
typed_members-typed_query-requires t c = (
  search (rules, the_lemmas),
  record {
    small = member_small c.args.catalog.now c.args.members.now c.as_slice-member-items.result.now c.loop-member.member-index c.member-item.result c.as_slice-member-items.ensures (omega arith) c.member-item.is c.requires.small;
    apart = member_apart c.args.catalog.now c.args.members.now c.as_slice-member-items.result.now c.loop-member.member-index c.member-item.result c.as_slice-member-items.ensures (omega arith) c.member-item.is c.requires.apart;
  },
)

pub typed_select-typed_sources-requires : goal.typed_select-typed_sources-requires
typed_select-typed_sources-requires t c = (
  search (rules, the_lemmas),
  record {
    small = sources_small c.args.catalog.now c.args.block.now c.requires.small;
    apart = sources_apart c.args.catalog.now c.args.block.now c.requires.apart;
  },
)

pub typed_select-typed_block-requires : goal.typed_select-typed_block-requires
typed_select-typed_block-requires t c = groups_small c.args.catalog.now c.args.block.now c.requires.small

pub typed_select-all_columns-requires : goal.typed_select-all_columns-requires
typed_select-all_columns-requires t c = groups_small c.args.catalog.now c.args.block.now c.requires.small

pub typed_sources-typed_source-requires : goal.typed_sources-typed_source-requires
typed_sources-typed_source-requires t c = (
  search (rules, the_lemmas),
  record {
    small = source_small c.args.catalog.now c.args.sources.now c.as_slice-joined-items.result.now c.loop-joined.joined-index c.joined-item.result c.as_slice-joined-items.ensures (omega arith) c.joined-item.is c.requires.small;
    apart = source_apart c.args.catalog.now c.args.sources.now c.as_slice-joined-items.result.now c.loop-joined.joined-index c.joined-item.result c.as_slice-joined-items.ensures (omega arith) c.joined-item.is c.requires.apart;
  },
)

pub typed_sources-of-requires : goal.typed_sources-of-requires
typed_sources-of-requires t c = record { few = typed_scope_small c.args.catalog.now c.args.sources.now c.as_slice-joined-items.result.now c.loop-joined.joined-index c.loop-joined.found.items c.loop-joined.origins c.as_slice-joined-items.ensures (omega arith) c.loop-joined.invariant c.requires.apart c.requires.small }

pub typed_source-typed_query-requires : goal.typed_source-typed_query-requires
typed_source-typed_query-requires t c = (
  search (rules, the_lemmas),
  record {
    small = query_small c.args.catalog.now c.args.source.now c.in-Query.query c.get.result.now c.in-Query.alias c.in-Query.is c.get.ensures c.requires.small;
    apart = query_apart c.args.catalog.now c.args.source.now c.in-Query.query c.get.result.now c.in-Query.alias c.in-Query.is c.get.ensures c.requires.apart;
  },
)
