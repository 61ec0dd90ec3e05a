-- The loop has found the least owner of the nodes so far that have no value.
use Rattle.std.proofs.Common.{◌≡◌}
use Rattle.sq_circuit.specs.Along.{least_below}
use Rattle.sq_whole.specs.Answers.{missing_owner}
use Rattle.sq_whole.proofs.evaluate.least_owner.Given as goal

abbrev pub invariant-loop-i : goal.invariant-loop-i
invariant-loop-i l = l.least ≡ least_below (missing_owner l.circuit l.values) l.i
