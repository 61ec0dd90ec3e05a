use Rattle.std.proofs.Common.{◌≡◌, take}
use Rattle.sq_ops.proofs.items.same_items.Given as goal

-- the items so far are the same
abbrev pub invariant-loop-i : goal.invariant-loop-i
invariant-loop-i l = take l.i l.items ≡ take l.i l.others
