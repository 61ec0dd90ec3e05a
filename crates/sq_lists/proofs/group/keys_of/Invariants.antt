use Rattle.std.proofs.Common.{◌≡◌, take, map}
use Rattle.sq_expr.specs.Meaning.{columns_of}
use Rattle.sq_lists.proofs.group.keys_of.Given as goal

abbrev pub invariant-loop-row : goal.invariant-loop-row
invariant-loop-row l = l.keys.items ≡ map (columns_of l.columns) (take l.row-index l.rows)
