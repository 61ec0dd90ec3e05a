use Rattle.std.proofs.Common.{◌≡◌, ◌≤◌, take, length}
use Rattle.sq_typed.specs.Blocks.{present}
use Rattle.sq_lists.proofs.aggregate.count_present.Given as goal

abbrev pub invariant-loop-value : goal.invariant-loop-value
invariant-loop-value l = (l.count ≡ length (present (take l.value-index l.values))) × (l.count ≤ l.value-index)
