use Rattle.std.proofs.Common.{◌≡◌, take}
use Rattle.sq_value.specs.Order.{row_cmp}
use Rattle.sq_algebra.specs.Listed.{without}
use Rattle.sq_lists.proofs.sets.without.Given as goal

abbrev pub invariant-loop-row : goal.invariant-loop-row
invariant-loop-row l = l.kept.items ≡ without row_cmp (take l.row-index l.rows) l.others
