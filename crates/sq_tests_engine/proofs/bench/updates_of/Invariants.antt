use Rattle.sq_tests_engine.specs.Totals.{AreOfNumbers}
use Rattle.sq_tests_engine.proofs.bench.updates_of.Given as goal

abbrev pub invariant-loop-change : goal.invariant-loop-change
invariant-loop-change l = AreOfNumbers l.updates.items
