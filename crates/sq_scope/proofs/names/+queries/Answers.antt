use Rattle.sq_scope.proofs.NamesTrees.{block_told, members_told, chain_told}
use Rattle.sq_scope.proofs.names.+queries.Goals as goal

pub any_in_query-returns-in-Block : goal.any_in_query-returns-in-Block
any_in_query-returns-in-Block t c = block_told c.args.fault c.args.catalog.now c.args.query.now c.in-Block.block c.get.result.now c.any_in_block.result c.in-Block.is c.get.ensures c.any_in_block.ensures

pub any_in_query-returns-in_ok-in_rest-in-Chain : goal.any_in_query-returns-in_ok-in_rest-in-Chain
any_in_query-returns-in_ok-in_rest-in-Chain t c = chain_told c.args.fault c.args.catalog.now c.args.query.now c.in-Chain.first c.get-in-Chain.result.now c.in-Chain.rest c.in_ok-in_first-in-Chain.in_first c.in_ok-in_rest-in-Chain.in_rest c.in-Chain.is c.get-in-Chain.ensures c.in_ok-in_first-in-Chain.ensures c.in_ok-in_rest-in-Chain.ensures

pub any_in_query-returns-in-Intersect : goal.any_in_query-returns-in-Intersect
any_in_query-returns-in-Intersect t c = members_told c.args.fault c.args.catalog.now c.args.query.now c.in-Intersect.members c.any_in_members.result c.in-Intersect.is c.any_in_members.ensures
