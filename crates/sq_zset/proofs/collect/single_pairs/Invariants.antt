use Rattle.std.proofs.Common.{◌≡◌, ◌++◌, pos}
use Rattle.std.specs.Vec.Iter.{into_iter_items}
use Rattle.sq_algebra.specs.Operators.{weighing}
use Rattle.sq_zset.specs.Pairs.{weighted_rows}
use Rattle.sq_zset.proofs.collect.single_pairs.Given as goal

-- the pairs so far and the rows that are still to come are all the rows
abbrev pub invariant-loop-row : goal.invariant-loop-row
invariant-loop-row l = weighted_rows l.pairs.items ++ weighing (pos 1) (into_iter_items l.row-iterator) ≡ weighing (pos 1) l.fn.rows.items
