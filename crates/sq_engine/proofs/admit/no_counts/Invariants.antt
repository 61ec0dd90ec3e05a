use Rattle.std.proofs.Common.{◌≡◌, ℕ, List, pos, length}
use Rattle.sq_value.specs.declared.value.Value.{Value}
use Rattle.sq_engine.specs.Admitting.{count_at}
use Rattle.sq_engine.proofs.admit.no_counts.Given as goal

abbrev pub invariant-loop-table : goal.invariant-loop-table
invariant-loop-table l = record {
  many : length l.counts.items ≡ l._table;
  none : (t : ℕ) (row : List Value) → count_at l.counts.items t row ≡ pos 0;
}
