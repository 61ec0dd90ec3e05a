-- The loop has the values of the nodes so far that are sound.
use Rattle.std.proofs.Common.{◌≡◌}
use Rattle.sq_circuit.specs.Along.{each_below}
use Rattle.sq_circuit.specs.Circuits.{known}
use Rattle.sq_whole.proofs.evaluate.sound_values.Given as goal

abbrev pub invariant-loop-i : goal.invariant-loop-i
invariant-loop-i l = l.values.items ≡ each_below (known l.circuit l.tables) l.i
