use Rattle.std.proofs.Common.{◌≡◌, ◌++◌, map, take}
use Rattle.sq_check.specs.TypesFrames.{frame_column}
use Rattle.sq_scope.specs.TypesItems.{chosen_of}
use Rattle.sq_check.proofs.listed.push_listed_columns.Given as goal

-- the columns of the items so far are there
abbrev pub invariant-loop-item : goal.invariant-loop-item
invariant-loop-item l = l.columns ≡ l.initial.columns ++ map (frame_column l.frame) (map chosen_of (take l.item-index l.items))
