use Rattle.std.proofs.Common.{◌≡◌, take}
use Rattle.sq_agg.proofs.argument.copy_values.Given as goal

-- the values so far are copied
abbrev pub invariant-loop-i : goal.invariant-loop-i
invariant-loop-i l = l.values.items ≡ take l.i l.row
