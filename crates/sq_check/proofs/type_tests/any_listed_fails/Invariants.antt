use Rattle.std.proofs.Common.{◌≡◌, map, take}
use Rattle.std.specs.List.{list_any}
use Rattle.sq_scope.specs.TypesItems.{chosen_of}
use Rattle.sq_check.specs.TypesTests.{item_fails}
use Rattle.sq_check.proofs.type_tests.any_listed_fails.Given as goal

-- whether an item so far fails
abbrev pub invariant-loop-item : goal.invariant-loop-item
invariant-loop-item l = l.found ≡ list_any (item_fails l.test l.frame) (map chosen_of (take l.item-index l.items))
