use Rattle.std.proofs.Common.{◌≡◌, map, take}
use Rattle.sq_typed.specs.Programs.{table_column}
use Rattle.sq_check.proofs.program.table_columns.Given as goal

abbrev pub invariant-loop-column : goal.invariant-loop-column
invariant-loop-column l = l.made ≡ map table_column (take l.column-index l.columns)
