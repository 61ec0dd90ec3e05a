use Rattle.std.proofs.Common.{◌≡◌, map, take}
use Rattle.sq_check.specs.TypesColumns.{up_to}
use Rattle.sq_check.specs.TypesFrames.{frame_column}
use Rattle.sq_scope.specs.TypesItems.{chosen_of}
use Rattle.sq_check.proofs.columns.add_listed.Given as goal

-- the first columns of the items so far
abbrev pub invariant-loop-item : goal.invariant-loop-item
invariant-loop-item l = l.columns ≡ up_to l.limit l.initial.columns (map (frame_column l.frame) (map chosen_of (take l.item-index l.items)))
