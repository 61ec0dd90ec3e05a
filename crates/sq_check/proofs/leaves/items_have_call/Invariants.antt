use Rattle.std.proofs.Common.{◌≡◌, take}
use Rattle.std.specs.List.{list_any}
use Rattle.sq_scope.specs.TypesLeaves.{item_has_call}
use Rattle.sq_check.proofs.leaves.items_have_call.Given as goal

-- whether a call stands in the items so far
abbrev pub invariant-loop-item : goal.invariant-loop-item
invariant-loop-item l = l.found ≡ list_any item_has_call (take l.item-index l.items)
