-- The values so far that are there, and those of the rest, are those of all.
use Rattle.std.proofs.Common.{◌≡◌, ◌++◌}
use Rattle.std.specs.List.{flat_map}
use Rattle.sq_ops.specs.Indexes.{given}
use Rattle.sq_whole.proofs.evaluate.all_values.Given as goal

abbrev pub invariant-loop-value : goal.invariant-loop-value
invariant-loop-value l = flat_map given l.fn.values.items ≡ l.all.items ++ flat_map given l.value-iterator.rest.items
