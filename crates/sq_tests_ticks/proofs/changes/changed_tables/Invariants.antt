use Rattle.sq_tests_ticks.specs.Ticks.{EachAt, IsPlusAt}
use Rattle.sq_tests_ticks.proofs.changes.changed_tables.Given as goal

abbrev pub invariant-loop-t : goal.invariant-loop-t
invariant-loop-t l = EachAt (IsPlusAt l.tables l.changes) l.now.items l.t
