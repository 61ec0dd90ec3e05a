use Rattle.std.proofs.Common.{rules}
use Rattle.sq_check.specs.TypesFrames.{frame_column}
use Rattle.sq_check.proofs.TypesColumnLemmas.{more_front}
use Rattle.sq_check.proofs.columns.columns_up_to.Goals as goal

pub loop-item-preserved : goal.loop-item-preserved
loop-item-preserved c = more_front (frame_column c.args.frame.now) c.args.scope.now c.args.limit c.args.items.now c.loop-item.item-index c.item-item.result c.loop-item.columns c.add_item.new.columns (search rules) c.item-item.is c.loop-item.invariant (search rules)
