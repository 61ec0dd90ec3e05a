use Rattle.std.proofs.Common.{◌≡◌, ◌++◌, map, take}
use Rattle.sq_check.specs.TypesFrames.{frame_item}
use Rattle.sq_scope.specs.TypesItems.{chosen_of}
use Rattle.sq_check.proofs.listed.push_listed.Given as goal

-- the expressions of the items so far are there
abbrev pub invariant-loop-item : goal.invariant-loop-item
invariant-loop-item l = l.exprs ≡ l.initial.exprs ++ map (frame_item l.frame) (map chosen_of (take l.item-index l.items))
