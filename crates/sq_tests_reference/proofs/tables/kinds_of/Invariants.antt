use Rattle.std.proofs.Common.{◌≡◌, take}
use Rattle.std.specs.Prelude.{map}
use Rattle.sq_tests_reference.proofs.tables.kinds_of.Given as goal

-- the kinds of the columns so far
abbrev pub invariant-loop-column : goal.invariant-loop-column
invariant-loop-column l = l.kinds.items ≡ map (λ c. c.kind) (take l.column-index l.relation.columns)
