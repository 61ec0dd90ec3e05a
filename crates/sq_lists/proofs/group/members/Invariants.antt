use Rattle.std.proofs.Common.{◌≡◌, take, filter, is_eq}
use Rattle.sq_value.specs.Order.{row_cmp}
use Rattle.sq_expr.specs.Meaning.{columns_of}
use Rattle.sq_lists.proofs.group.members.Given as goal

abbrev pub invariant-loop-row : goal.invariant-loop-row
invariant-loop-row l = l.members.items ≡ filter (λ row. is_eq (row_cmp l.key (columns_of l.columns row))) (take l.row-index l.rows)
