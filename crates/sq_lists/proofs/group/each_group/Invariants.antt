use Rattle.std.proofs.Common.{◌≡◌, take, map, false}
use Rattle.std.specs.List.{list_any}
use Rattle.sq_typed.specs.Blocks.{group_row}
use Rattle.sq_lists.specs.Values.{groups_at, is_group_outside}
use Rattle.sq_lists.proofs.group.each_group.Given as goal

abbrev pub invariant-loop-key : goal.invariant-loop-key
invariant-loop-key l = (l.grouped.items ≡ map (group_row l.calls) (groups_at l.columns (take l.key-index l.keys) l.rows)) × (list_any (is_group_outside l.calls) (groups_at l.columns (take l.key-index l.keys) l.rows) ≡ false)
