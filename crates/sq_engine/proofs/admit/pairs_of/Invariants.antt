use Rattle.std.proofs.Common.{◌≡◌, ◌≤◌, ◌==◌, map, take}
use Rattle.std.specs.List.{filter}
use Rattle.sq_zset.specs.Pairs.{mass, weighted_rows}
use Rattle.sq_engine.specs.Admitting.{signed}
use Rattle.sq_engine.proofs.admit.pairs_of.Given as goal

abbrev pub invariant-loop-update : goal.invariant-loop-update
invariant-loop-update l = record {
  told : weighted_rows l.pairs.items ≡ map signed (filter (λ u. u.table == l.table) (take l.update-index l.updates));
  few : mass l.pairs.items ≤ l.update-index;
}
