use Rattle.std.proofs.Common.{◌≡◌, ◌++◌, drop}
use Rattle.sq_circuit.specs.Explained.{explained}
use Rattle.sq_circuit.proofs.Explaining.{lines_from}
use Rattle.sq_circuit.proofs.text.explain.Given as goal

abbrev pub invariant-loop-i : goal.invariant-loop-i
invariant-loop-i l = l.text.items ++ lines_from l.i (drop l.i l.circuit) ≡ explained l.circuit
