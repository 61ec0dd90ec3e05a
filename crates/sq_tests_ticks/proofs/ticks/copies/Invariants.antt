use Rattle.sq_tests_ticks.specs.Ticks.{EachAt, IsCopyAt}
use Rattle.sq_tests_ticks.proofs.ticks.copies.Given as goal

abbrev pub invariant-loop-t : goal.invariant-loop-t
invariant-loop-t l = EachAt (IsCopyAt l.tables) l.copies.items l.t
