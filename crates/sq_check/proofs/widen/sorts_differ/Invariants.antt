use Rattle.std.proofs.Common.{◌≡◌, drop}
use Rattle.sq_typed.specs.Faults.{differ_in_sort}
use Rattle.sq_check.proofs.widen.sorts_differ.Given as goal

-- the places so far are of the same sorts
abbrev pub invariant-loop-i : goal.invariant-loop-i
invariant-loop-i l = differ_in_sort (drop l.i l.columns) (drop l.i l.others) ≡ differ_in_sort l.columns l.others
