use Rattle.std.proofs.Common.{◌≡◌, take}
use Rattle.sq_ops.proofs.items.clone_items.Given as goal

-- the items so far are copied
abbrev pub invariant-loop-item : goal.invariant-loop-item
invariant-loop-item l = l.copies ≡ take l.item-index l.items
