use Rattle.std.proofs.Common.{◌≡◌, take}
use Rattle.std.specs.List.{flat_map, list_any}
use Rattle.sq_typed.specs.Faults.{item_exprs}
use Rattle.sq_typed.specs.Leaves.{refs}
use Rattle.sq_scope.specs.NamesReferences.{is_at_fault}
use Rattle.sq_scope.proofs.references.any_in_items.Given as goal

abbrev pub invariant-loop-item : goal.invariant-loop-item
invariant-loop-item l = l.any ≡ list_any (λ i. list_any (is_at_fault l.fault l.scope) (flat_map refs (item_exprs i))) (take l.item-index l.items)
