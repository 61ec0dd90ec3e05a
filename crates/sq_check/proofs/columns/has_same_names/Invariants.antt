use Rattle.std.proofs.Common.{◌≡◌, map, take}
use Rattle.sq_typed.specs.Faults.{names}
use Rattle.sq_check.proofs.columns.has_same_names.Given as goal

-- the names so far
abbrev pub invariant-loop-column : goal.invariant-loop-column
invariant-loop-column l = map (λ name. name.now) l.names.items ≡ names (take l.column-index l.columns)
