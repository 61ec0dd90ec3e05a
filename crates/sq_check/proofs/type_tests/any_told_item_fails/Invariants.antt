use Rattle.std.proofs.Common.{◌≡◌, take}
use Rattle.std.specs.List.{list_any}
use Rattle.sq_typed.specs.Selected.{written_out}
use Rattle.sq_check.specs.TypesTests.{item_fails}
use Rattle.sq_check.proofs.type_tests.any_told_item_fails.Given as goal

-- whether an item so far fails
abbrev pub invariant-loop-item : goal.invariant-loop-item
invariant-loop-item l = l.found ≡ list_any (λ i. list_any (item_fails l.test l.frame) (written_out l.scope i.now)) (take l.item-index l.items)
