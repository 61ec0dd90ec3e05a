use Rattle.std.proofs.Common.{◌≡◌, map, take}
use Rattle.std.specs.List.{fold}
use Rattle.sq_algebra.specs.ZSet.{entries}
use Rattle.sq_expr.specs.Meaning.{column_of}
use Rattle.sq_ops.specs.Aggregates.{lesser}
use Rattle.sq_value.specs.declared.value.Value.TheVariants.{Null}
use Rattle.sq_ops.proofs.extreme.least_in.Given as goal

-- of the values in the first rows
abbrev pub invariant-loop-i : goal.invariant-loop-i
invariant-loop-i l = l.least ≡ fold lesser Null (map (λ e. column_of e.0 l.column) (take l.i (entries l.z)))
