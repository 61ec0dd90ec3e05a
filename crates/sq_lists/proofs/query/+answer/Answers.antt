use Rattle.std.proofs.Common.{map, refl, sym, subst, ◌∙◌, rules}
use Rattle.std.proofs.lemmas.Option.{slice_get_read}
use Rattle.sq_typed.specs.declared.query.Block.{out-Block}
use Rattle.sq_typed.specs.declared.query.Origin.{the_lemmas}
use Rattle.sq_lists.specs.Answers.{ListsItems}
use Rattle.sq_lists.specs.Listings.{contents_of}
use Rattle.sq_lists.specs.declared.stop.Stop.TheVariants.{Range}
use Rattle.sq_lists.proofs.QueryLists.{ChainSoFar, CommonSoFar, as_err, chain_begins, chain_first, chain_first_out, chain_goes_on, chain_member_out, chain_step_out, common_begins, common_goes_on, items_more, query_answers, query_can, relation_lists, relation_there, stopped}
use Rattle.sq_lists.proofs.SourceLists.{as_many_items, block_lists, block_out, block_suits, items_answer, sources_out}
use Rattle.sq_lists.proofs.query.+answer.Goals as goal

-- ---- chains

pub list_query-list_query-requires : goal.list_query-list_query-requires
list_query-list_query-requires t c = (search (rules, the_lemmas), chain_first (map contents_of c.args.relations.now) c.args.query.now c.in-Chain.first c.get-in-Chain.result.now c.in-Chain.rest c.in-Chain.is c.get-in-Chain.ensures c.requires)

pub list_query-returns-in_err-listing-in-Chain : goal.list_query-returns-in_err-listing-in-Chain
list_query-returns-in_err-listing-in-Chain t c =
    stopped _ c.from_residual.result c.in_err-listing-in-Chain.field-0.0 _ _ c.from_residual.ensures.1 (λ y same. same)
    (λ range. chain_first_out (map contents_of c.args.relations.now) c.args.query.now c.in-Chain.first c.get-in-Chain.result.now c.in-Chain.rest c.in-Chain.is c.get-in-Chain.ensures (c.in_err-listing-in-Chain.ensures range))

pub list_query-loop-step-init : goal.list_query-loop-step-init
list_query-loop-step-init t c =
    subst (λ steps. ChainSoFar (map contents_of c.args.relations.now) c.args.query.now c.in_ok-listing-in-Chain.listing.width c.in_ok-rows-in-Chain.rows.items steps) (sym c.as_slice-step-items.ensures)
    (chain_begins (map contents_of c.args.relations.now) c.args.query.now c.in-Chain.first c.get-in-Chain.result.now c.in-Chain.rest c.in-Chain.is c.get-in-Chain.ensures
    c.requires c.in_ok-listing-in-Chain.listing c.in_ok-listing-in-Chain.ensures c.in_ok-rows-in-Chain.rows.items (c.in_ok-rows-in-Chain.ensures ∙ c.as_slice.ensures))

pub list_query-returns-in_err-more-in-Chain : goal.list_query-returns-in_err-more-in-Chain
list_query-returns-in_err-more-in-Chain t c =
    stopped _ c.from_residual-in_err-more-in-Chain.result c.in_err-more-in-Chain.field-0.0 _ _ c.from_residual-in_err-more-in-Chain.ensures.1 (λ y same. same)
    (λ range. chain_member_out (map contents_of c.args.relations.now) c.args.query.now c.in_ok-listing-in-Chain.listing.width c.loop-step.rows.items c.as_slice-step-items.result.now c.loop-step.step-index c.loop-step.invariant c.step-item.result
    (slice_get_read c.as_slice-step-items.result.now _ c.loop-step.step-index c.step-item.result refl c.loop-step-test.true c.step-item.is) (c.in_err-more-in-Chain.ensures range))

pub list_query-returns-in_err-rows-in-Chain-2 : goal.list_query-returns-in_err-rows-in-Chain-2
list_query-returns-in_err-rows-in-Chain-2 t c =
    stopped _ c.from_residual-in_err-rows-in-Chain-2.result c.in_err-rows-in-Chain-2.field-0.0 _ _ c.from_residual-in_err-rows-in-Chain-2.ensures.1 (λ y same. same)
    (λ range. chain_step_out (map contents_of c.args.relations.now) c.args.query.now c.in_ok-listing-in-Chain.listing.width c.loop-step.rows.items c.as_slice-step-items.result.now c.loop-step.step-index c.loop-step.invariant c.step-item.result
    (slice_get_read c.as_slice-step-items.result.now _ c.loop-step.step-index c.step-item.result refl c.loop-step-test.true c.step-item.is) c.in_ok-more-in-Chain.more c.in_ok-more-in-Chain.ensures
    (c.in_err-rows-in-Chain-2.ensures.range (as_err c.in_err-rows-in-Chain-2.field-0.0 Range range)))

pub list_query-loop-step-preserved : goal.list_query-loop-step-preserved
list_query-loop-step-preserved t c =
    chain_goes_on (map contents_of c.args.relations.now) c.args.query.now c.in_ok-listing-in-Chain.listing.width c.loop-step.rows.items c.as_slice-step-items.result.now c.loop-step.step-index c.loop-step.invariant c.step-item.result
    (slice_get_read c.as_slice-step-items.result.now _ c.loop-step.step-index c.step-item.result refl c.loop-step-test.true c.step-item.is) c.in_ok-more-in-Chain.more c.in_ok-more-in-Chain.ensures
    c.in_ok-rows-in-Chain-2.rows.items c.in_ok-rows-in-Chain-2.ensures.ok c.in_ok-rows-in-Chain-2.ensures.few

-- ---- INTERSECT

pub list_query-loop-member-init : goal.list_query-loop-member-init
list_query-loop-member-init t c =
    subst (CommonSoFar (map contents_of c.args.relations.now) c.args.query.now _) (sym c.as_slice-member-items.ensures)
    (common_begins (map contents_of c.args.relations.now) c.args.query.now c.in-Intersect.members c.in-Intersect.is c.requires)

pub list_query-loop-member-preserved : goal.list_query-loop-member-preserved
list_query-loop-member-preserved t c =
    common_goes_on (map contents_of c.args.relations.now) c.args.query.now c.loop-member.found c.as_slice-member-items.result.now c.loop-member.member-index c.loop-member.invariant c.member-item.result
    (slice_get_read c.as_slice-member-items.result.now _ c.loop-member.member-index c.member-item.result refl c.loop-member-test.true c.member-item.is) c.in_ok-more-in-Intersect.more c.in_ok-more-in-Intersect.ensures
    c.in_ok-next_of_common-in-Intersect.field-0 c.in_ok-next_of_common-in-Intersect.ensures.ok.0 c.in_ok-next_of_common-in-Intersect.ensures.ok.1 c.in_ok-next_of_common-in-Intersect.ensures.few

-- ---- blocks

pub list_block-list_sources-requires : goal.list_block-list_sources-requires
list_block-list_sources-requires t c = (search (rules, the_lemmas), items_answer (map contents_of c.args.relations.now) c.args.block.now c.requires)

pub list_block-returns-in_err-sources : goal.list_block-returns-in_err-sources
list_block-returns-in_err-sources t c =
    stopped _ c.from_residual.result c.in_err-sources.field-0.0 _ _ c.from_residual.ensures.1 (λ y same. same)
    (λ range. sources_out (map contents_of c.args.relations.now) c.args.block.now (c.in_err-sources.ensures range))

pub list_block-block_rows-requires-clause-many : goal.list_block-block_rows-requires-clause-many
list_block-block_rows-requires-clause-many t c =
    as_many_items (map contents_of c.args.relations.now) c.deref.result.now (out-Block c.args.block.now).sources
    (subst (λ ls. ListsItems (map contents_of c.args.relations.now) ls (out-Block c.args.block.now).sources) (sym c.deref.ensures.value) c.in_ok-sources.ensures)

pub list_block-block_rows-requires-clause-suits : goal.list_block-block_rows-requires-clause-suits
list_block-block_rows-requires-clause-suits t c =
    block_suits (map contents_of c.args.relations.now) c.args.block.now c.deref.result.now c.requires
    (subst (λ ls. ListsItems (map contents_of c.args.relations.now) ls (out-Block c.args.block.now).sources) (sym c.deref.ensures.value) c.in_ok-sources.ensures)

pub list_block-returns-in_err-rows : goal.list_block-returns-in_err-rows
list_block-returns-in_err-rows t c =
    stopped _ c.from_residual-in_err-rows.result c.in_err-rows.field-0.0 _ _ c.from_residual-in_err-rows.ensures.1 (λ y same. same)
    (λ range. block_out (map contents_of c.args.relations.now) c.args.block.now c.deref.result.now
    (subst (λ ls. ListsItems (map contents_of c.args.relations.now) ls (out-Block c.args.block.now).sources) (sym c.deref.ensures.value) c.in_ok-sources.ensures)
    (c.in_err-rows.ensures.range (as_err c.in_err-rows.field-0.0 Range range)))

pub list_block-returns : goal.list_block-returns
list_block-returns t c =
    block_lists (map contents_of c.args.relations.now) c.args.block.now c.deref.result.now
    (subst (λ ls. ListsItems (map contents_of c.args.relations.now) ls (out-Block c.args.block.now).sources) (sym c.deref.ensures.value) c.in_ok-sources.ensures)
    (record { width = c.len.result; rows = c.from_vec.result }) c.len.ensures (c.from_vec.ensures ∙ c.in_ok-rows.ensures.ok) c.in_ok-rows.ensures.inside

-- ---- sources

pub list_origin-relation-requires : goal.list_origin-relation-requires
list_origin-relation-requires t c = relation_there c.args.relations.now c.args.origin.now c.in-Relation.number c.in-Relation.is c.requires

pub list_origin-list_query-requires : goal.list_origin-list_query-requires
list_origin-list_query-requires t c = (search (rules, the_lemmas), query_can c.args.relations.now c.args.origin.now c.in-Query.query c.in-Query.is c.requires)

pub list_origin-returns-in_ok-relation-in-Relation : goal.list_origin-returns-in_ok-relation-in-Relation
list_origin-returns-in_ok-relation-in-Relation t c = relation_lists c.args.relations.now c.args.origin.now c.in-Relation.number c.in_ok-relation-in-Relation.field-0 c.in-Relation.is c.in_ok-relation-in-Relation.ensures

pub list_origin-returns-in-Query : goal.list_origin-returns-in-Query
list_origin-returns-in-Query t c = query_answers c.args.relations.now c.args.origin.now c.in-Query.query c.list_query.result c.in-Query.is c.list_query.ensures

pub list_sources-loop-item-preserved : goal.list_sources-loop-item-preserved
list_sources-loop-item-preserved t c =
    items_more (map contents_of c.args.relations.now) c.as_slice-item-items.result.now c.loop-item.listings.items c.loop-item.item-index c.item-item.result
    (slice_get_read c.as_slice-item-items.result.now _ c.loop-item.item-index c.item-item.result refl c.loop-item-test.true c.item-item.is) c.loop-item.invariant
    c.in_ok-listing.listing c.push.new.self.items c.in_ok-listing.ensures (search rules)
