use Rattle.std.proofs.Common.{take}
use Rattle.sq_typed.specs.Fit.{AreAllOfKinds}
use Rattle.sq_tests_reference.proofs.tables.have_kinds.Given as goal

-- the rows so far are of these kinds
abbrev pub invariant-loop-row : goal.invariant-loop-row
invariant-loop-row l = AreAllOfKinds (take l.row-index l.rows) l.kinds
