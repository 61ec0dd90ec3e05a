use Rattle.std.proofs.Common.{◌≡◌, ◌≤◌, ◌*◌, ◌^◌, length, take}
use Rattle.std.specs.List.{flat_map}
use Rattle.sq_typed.specs.Selected.{written_out}
use Rattle.sq_check.proofs.columns.items_count.Given as goal

-- the items so far, of which each stands for at most 2^64 columns
abbrev pub invariant-loop-item : goal.invariant-loop-item
invariant-loop-item l = record { counted : l.count ≡ length (flat_map (written_out l.scope) (take l.item-index l.items)); few : l.count ≤ l.item-index * 2 ^ 64 }
