use Rattle.std.proofs.Common.{◌≡◌, take}
use Rattle.sq_value.specs.Order.{row_cmp}
use Rattle.sq_algebra.specs.Listed.{among}
use Rattle.sq_lists.proofs.sets.among.Given as goal

abbrev pub invariant-loop-row : goal.invariant-loop-row
invariant-loop-row l = l.kept.items ≡ among row_cmp (take l.row-index l.rows) l.others
