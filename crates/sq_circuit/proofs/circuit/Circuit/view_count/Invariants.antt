use Rattle.std.proofs.Common.{◌≡◌, ◌≤◌, length, take}
use Rattle.std.specs.List.{filter}
use Rattle.sq_circuit.specs.Invariant.{is_view}
use Rattle.sq_circuit.proofs.circuit.Circuit.view_count.Given as goal

abbrev pub invariant-loop-i : goal.invariant-loop-i
invariant-loop-i l = record {
  told : l.count ≡ length (filter (λ p. is_view p.node) (take l.i l.self));
  few : l.count ≤ l.i;
}
