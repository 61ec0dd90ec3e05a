use Rattle.std.proofs.Common.{◌≡◌, take}
use Rattle.std.specs.List.{list_any}
use Rattle.sq_typed.specs.Faults.{is_unknown_star}
use Rattle.sq_scope.proofs.references.any_unknown_star.Given as goal

abbrev pub invariant-loop-item : goal.invariant-loop-item
invariant-loop-item l = l.any ≡ list_any (is_unknown_star l.scope) (take l.item-index l.items)
