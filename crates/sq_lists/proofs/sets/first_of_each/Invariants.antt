use Rattle.std.proofs.Common.{◌≡◌, take}
use Rattle.sq_value.specs.Order.{row_cmp}
use Rattle.sq_algebra.specs.Listed.{first_of_each}
use Rattle.sq_lists.proofs.sets.first_of_each.Given as goal

abbrev pub invariant-loop-row : goal.invariant-loop-row
invariant-loop-row l = l.firsts.items ≡ first_of_each row_cmp (take l.row-index l.rows)
