use Rattle.std.proofs.Common.{◌-◌, drop}
use Rattle.sq_typed.specs.Fit.{TablesAreOfKinds}
use Rattle.sq_tests_reference.proofs.tables.are_of_kinds.Given as goal

-- the last tables are of the kinds of the last relations
abbrev pub invariant-loop-done : goal.invariant-loop-done
invariant-loop-done l = TablesAreOfKinds (drop l.left l.tables) (drop (l.count - l.done) l.catalog)
