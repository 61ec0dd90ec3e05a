use Rattle.std.proofs.Common.{◌≡◌}
use Rattle.sq_circuit.specs.Along.{each_below}
use Rattle.sq_circuit.specs.Nodes.{none}
use Rattle.sq_engine.proofs.tables.no_tables.Given as goal

abbrev pub invariant-loop-table : goal.invariant-loop-table
invariant-loop-table l = l.tables.items ≡ each_below (λ t. none) l._table
