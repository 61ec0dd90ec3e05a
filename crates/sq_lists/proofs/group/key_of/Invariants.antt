use Rattle.std.proofs.Common.{◌≡◌, take}
use Rattle.sq_expr.specs.Meaning.{columns_of}
use Rattle.sq_lists.proofs.group.key_of.Given as goal

abbrev pub invariant-loop-column : goal.invariant-loop-column
invariant-loop-column l = l.values.items ≡ columns_of (take l.column-index l.columns) l.row
