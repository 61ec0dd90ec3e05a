use Rattle.std.proofs.Common.{◌≡◌, map, take}
use Rattle.std.specs.List.{list_any}
use Rattle.sq_check.specs.TypesBare.{bare_item}
use Rattle.sq_scope.specs.TypesItems.{chosen_of}
use Rattle.sq_check.proofs.bare.any_is_bare.Given as goal

-- whether an item so far names such a column
abbrev pub invariant-loop-item : goal.invariant-loop-item
invariant-loop-item l = l.found ≡ list_any (bare_item l.row l.keys.numbers) (map chosen_of (take l.item-index l.items))
