use Rattle.std.proofs.Common.{rules}
use Rattle.sq_scope.specs.TypesLeaves.{leaves_of_item}
use Rattle.sq_scope.proofs.TypesCalls.{with_more}
use Rattle.sq_scope.proofs.calls.push_list_calls.Goals as goal

pub loop-item-preserved : goal.loop-item-preserved
loop-item-preserved c = with_more c.args.row.now leaves_of_item c.args.items.now c.loop-item.item-index c.item-item.result c.args.calls.now c.loop-item.calls c.push_item_calls.new.calls (search rules) c.loop-item.invariant (search rules) c.item-item.is
