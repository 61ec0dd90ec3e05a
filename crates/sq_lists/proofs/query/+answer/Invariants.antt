use Rattle.std.proofs.Common.{map, drop, take}
use Rattle.sq_lists.specs.Answers.{ListsItems}
use Rattle.sq_lists.specs.Listings.{contents_of}
use Rattle.sq_lists.proofs.QueryLists.{ChainSoFar, CommonSoFar}
use Rattle.sq_lists.proofs.query.+answer.Given as goal

-- the members of a chain that are left
abbrev pub invariant-list_query-loop-step : goal.invariant-list_query-loop-step
invariant-list_query-loop-step l = ChainSoFar (map contents_of l.relations) l.query l.listing.width l.rows.items (drop l.step-index l.step-items)

-- the members of INTERSECT that are left
abbrev pub invariant-list_query-loop-member : goal.invariant-list_query-loop-member
invariant-list_query-loop-member l = CommonSoFar (map contents_of l.relations) l.query l.found (drop l.member-index l.member-items)

-- so many sources
abbrev pub invariant-list_sources-loop-item : goal.invariant-list_sources-loop-item
invariant-list_sources-loop-item l = ListsItems (map contents_of l.relations) l.listings.items (take l.item-index l.item-items)
