use Rattle.std.proofs.Common.{◌≡◌, take, false}
use Rattle.std.specs.List.{flat_map, list_any}
use Rattle.sq_typed.specs.Blocks.{selected}
use Rattle.sq_typed.specs.Queries.{is_outside}
use Rattle.sq_lists.proofs.group.selected.Given as goal

abbrev pub invariant-loop-row : goal.invariant-loop-row
invariant-loop-row l = (l.selected.items ≡ selected l.items (take l.row-index l.rows)) × (list_any is_outside (flat_map (λ row. row) (selected l.items (take l.row-index l.rows))) ≡ false)
