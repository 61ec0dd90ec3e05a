use Rattle.std.proofs.Common.{◌≡◌, take, map, false}
use Rattle.std.specs.List.{list_any}
use Rattle.sq_expr.specs.Meaning.{num}
use Rattle.sq_typed.specs.Queries.{is_outside}
use Rattle.sq_lists.proofs.aggregate.values_on.Given as goal

abbrev pub invariant-loop-row : goal.invariant-loop-row
invariant-loop-row l = (l.values.items ≡ map (num l.expr) (take l.row-index l.rows)) × (list_any is_outside (map (num l.expr) (take l.row-index l.rows)) ≡ false)
