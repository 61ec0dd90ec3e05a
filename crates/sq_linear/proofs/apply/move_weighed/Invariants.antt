use Rattle.std.proofs.Common.{◌≡◌, ◌++◌}
use Rattle.std.specs.Vec.Iter.{drain_items}
use Rattle.sq_algebra.specs.Operators.{weighing}
use Rattle.sq_zset.specs.Pairs.{weighted_rows}
use Rattle.sq_linear.proofs.apply.move_weighed.Given as goal

-- the pairs, and the rows that are still to be moved, are what they were at first
abbrev pub invariant-loop-row : goal.invariant-loop-row
invariant-loop-row l = weighted_rows l.pairs.items ++ weighing l.fn.weight (drain_items l.row-iterator) ≡ weighted_rows l.fn.pairs.items ++ weighing l.fn.weight l.fn.rows.items
