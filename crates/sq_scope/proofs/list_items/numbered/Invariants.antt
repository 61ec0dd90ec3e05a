use Rattle.std.proofs.Common.{◌≡◌, map, take}
use Rattle.sq_typed.specs.Selected.{starred_from}
use Rattle.sq_scope.specs.TypesItems.{chosen_of}
use Rattle.sq_scope.proofs.list_items.numbered.Given as goal

-- the columns so far
abbrev pub invariant-loop-i : goal.invariant-loop-i
invariant-loop-i l = map chosen_of l.items.items ≡ starred_from l.begin (take l.i l.columns)
