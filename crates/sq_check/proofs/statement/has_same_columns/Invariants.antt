use Rattle.std.proofs.Common.{◌≡◌, map, take}
use Rattle.sq_typed.specs.Faults.{names}
use Rattle.sq_typed.specs.Programs.{table_column}
use Rattle.sq_check.proofs.statement.has_same_columns.Given as goal

abbrev pub invariant-loop-column : goal.invariant-loop-column
invariant-loop-column l = map (λ n. n.now) l.names.items ≡ names (map table_column (take l.column-index l.columns))
