use Rattle.std.proofs.Common.{◌≡◌, map, take}
use Rattle.std.specs.List.{flat_map}
use Rattle.sq_typed.specs.Selected.{written_out}
use Rattle.sq_check.specs.TypesFrames.{frame_column}
use Rattle.sq_check.proofs.columns.columns_up_to.Given as goal

-- the first columns of the items so far
abbrev pub invariant-loop-item : goal.invariant-loop-item
invariant-loop-item l = l.columns ≡ take l.limit (map (frame_column l.frame) (flat_map (written_out l.scope) (take l.item-index l.items)))
