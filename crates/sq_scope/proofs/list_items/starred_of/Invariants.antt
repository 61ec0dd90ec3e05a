use Rattle.std.proofs.Common.{◌≡◌, map, take}
use Rattle.std.specs.List.{flat_map}
use Rattle.sq_scope.specs.TypesItems.{chosen_of, starred_at}
use Rattle.sq_scope.proofs.list_items.starred_of.Given as goal

-- the columns of the sources so far
abbrev pub invariant-loop-place : goal.invariant-loop-place
invariant-loop-place l = map chosen_of l.items.items ≡ flat_map (starred_at l.scope) (take l.place-index l.place-items)
