use Rattle.std.proofs.Common.{◌≡◌, ◌≤◌, ◌*◌, ◌^◌, take, unsigned_abs}
use Rattle.sq_algebra.specs.ZSet.{int_sum_by}
use Rattle.sq_zset.proofs.zset.ZSet.total.Given as goal

abbrev pub invariant-loop-entry : goal.invariant-loop-entry
invariant-loop-entry l = record {
  told : l.sum ≡ int_sum_by (λ e. e.1) (take l.entry-index l.entry-items);
  bound : unsigned_abs l.sum ≤ l.entry-index * 2 ^ 62;
}
