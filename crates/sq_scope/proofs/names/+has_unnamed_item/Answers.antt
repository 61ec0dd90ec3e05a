use Rattle.std.proofs.Common.{sym}
use Rattle.sq_scope.proofs.NamesTrees.{left_block, left_chain, left_empty, left_first}
use Rattle.sq_scope.proofs.names.+has_unnamed_item.Goals as goal

pub returns-in-Block : goal.returns-in-Block
returns-in-Block t c = λ relations. left_block relations c.args.query.now c.in-Block.block c.get.result.now c.as_slice.result.now c.any_unnamed.result c.in-Block.is c.get.ensures c.as_slice.ensures c.any_unnamed.ensures

pub returns-in-Chain : goal.returns-in-Chain
returns-in-Chain t c = λ relations. left_chain relations c.args.query.now c.in-Chain.first c.get-in-Chain.result.now c.in-Chain.rest c.has_unnamed_item.result c.in-Chain.is c.get-in-Chain.ensures (c.has_unnamed_item.ensures relations)

pub returns-in-None : goal.returns-in-None
returns-in-None t c = λ relations. left_empty relations c.args.query.now c.in-Intersect.members c.in-Intersect.is (sym c.in-None.ensures.value)

pub returns-in-Some : goal.returns-in-Some
returns-in-Some t c = λ relations. left_first relations c.args.query.now c.in-Some.first.now c.in-Intersect.members c.has_unnamed_item-in-Some.result c.in-Intersect.is (sym c.in-Some.ensures.value) (c.has_unnamed_item-in-Some.ensures relations)
