use Rattle.std.proofs.Common.{◌≡◌}
use Rattle.sq_circuit.specs.Along.{each_below}
use Rattle.sq_engine.specs.Engines.{view_node}
use Rattle.sq_engine.specs.Ticking.{line_at}
use Rattle.sq_incr.specs.Inputs.{summed}
use Rattle.sq_engine.proofs.views.view_changes.Given as goal

abbrev pub invariant-loop-view : goal.invariant-loop-view
invariant-loop-view l = l.views.items ≡ each_below (λ v. summed (line_at l.pieces (view_node l.circuit v))) l.view
