use Rattle.std.proofs.Common.{◌≡◌, map, take, true}
use Rattle.sq_typed.specs.Selected.{starred}
use Rattle.sq_scope.specs.TypesItems.{chosen_of}
use Rattle.sq_scope.proofs.list_items.starred.Given as goal

-- the columns of the sources so far
abbrev pub invariant-loop-place : goal.invariant-loop-place
invariant-loop-place l = map chosen_of l.items.items ≡ starred (λ name. true) 0 (take l.place l.scope)
