use Rattle.std.proofs.Common.{◌≡◌, take}
use Rattle.std.specs.List.{list_any}
use Rattle.sq_typed.specs.Selected.{written_out}
use Rattle.sq_check.specs.TypesBare.{bare_item}
use Rattle.sq_check.proofs.bare.any_item_is_bare.Given as goal

-- whether an item so far names such a column
abbrev pub invariant-loop-item : goal.invariant-loop-item
invariant-loop-item l = l.found ≡ list_any (λ i. list_any (bare_item l.row l.keys.numbers) (written_out l.scope i.now)) (take l.item-index l.items)
