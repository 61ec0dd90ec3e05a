use Rattle.std.proofs.Common.{take, ◌∷◌, []}
use Rattle.std.specs.List.{AllByRecursion}
use Rattle.sq_algebra.specs.ZSet.{entries}
use Rattle.sq_shard.specs.Shards.{HasColumns}
use Rattle.sq_tests_traces.proofs.shards.have_a_column.Given as goal

-- the rows so far are not empty
abbrev pub invariant-loop-i : goal.invariant-loop-i
invariant-loop-i l = AllByRecursion (λ e. HasColumns (0 ∷ []) e.0) (take l.i (entries l.z))
