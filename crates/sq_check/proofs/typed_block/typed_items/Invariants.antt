use Rattle.std.proofs.Common.{◌≡◌, map, take}
use Rattle.std.specs.List.{flat_map}
use Rattle.sq_typed.specs.Selected.{written_out}
use Rattle.sq_check.specs.TypesFrames.{frame_item}
use Rattle.sq_check.proofs.typed_block.typed_items.Given as goal

-- the expressions of the items so far
abbrev pub invariant-loop-item : goal.invariant-loop-item
invariant-loop-item l = l.exprs ≡ map (frame_item l.frame) (flat_map (written_out l.scope) (take l.item-index l.items))
