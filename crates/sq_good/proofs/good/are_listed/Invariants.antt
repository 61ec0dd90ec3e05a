use Rattle.std.proofs.Common.{take}
use Rattle.std.specs.List.{AllByRecursion}
use Rattle.sq_circuit.specs.Invariant.{IsListed}
use Rattle.sq_good.proofs.good.are_listed.Given as goal

-- the tables so far are listed
abbrev pub invariant-loop-i : goal.invariant-loop-i
invariant-loop-i l = AllByRecursion IsListed (take l.i l.tables)
