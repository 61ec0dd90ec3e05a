use Rattle.std.proofs.Common.{◌≡◌, take, map, false}
use Rattle.std.specs.List.{list_any}
use Rattle.sq_expr.specs.Meaning.{num}
use Rattle.sq_typed.specs.Queries.{is_outside}
use Rattle.sq_lists.proofs.group.item_row.Given as goal

abbrev pub invariant-loop-expr : goal.invariant-loop-expr
invariant-loop-expr l = (l.values.items ≡ map (λ e. num e l.row) (take l.expr-index l.items)) × (list_any is_outside (map (λ e. num e l.row) (take l.expr-index l.items)) ≡ false)
