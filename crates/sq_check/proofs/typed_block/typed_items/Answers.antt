use Rattle.std.proofs.Common.{rules}
use Rattle.sq_check.specs.TypesFrames.{frame_item}
use Rattle.sq_check.proofs.TypesBlockLemmas.{more_items}
use Rattle.sq_check.proofs.typed_block.typed_items.Goals as goal

pub loop-item-preserved : goal.loop-item-preserved
loop-item-preserved c = more_items (frame_item c.args.frame.now) c.args.scope.now c.args.items.now c.loop-item.item-index c.item-item.result c.loop-item.exprs c.push_exprs.new.exprs (search rules) c.item-item.is c.loop-item.invariant (search rules)
