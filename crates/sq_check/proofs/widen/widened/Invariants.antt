use Rattle.std.proofs.Common.{◌≡◌, take}
use Rattle.sq_typed.specs.Resolved.{widened}
use Rattle.sq_check.proofs.widen.widened.Given as goal

-- the columns so far
abbrev pub invariant-loop-i : goal.invariant-loop-i
invariant-loop-i l = l.wide ≡ widened (take l.i l.columns) l.others
