use Rattle.std.proofs.Common.{◌≡◌}
use Rattle.sq_bridge.specs.Joins.{first_columns}
use Rattle.sq_plan.proofs.columns.first_columns.Given as goal

abbrev pub invariant-loop-i : goal.invariant-loop-i
invariant-loop-i l = l.columns ≡ first_columns l.i
