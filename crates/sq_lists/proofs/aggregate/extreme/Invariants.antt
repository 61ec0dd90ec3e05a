use Rattle.std.proofs.Common.{◌≡◌, take}
use Rattle.std.specs.Prelude.{option_copied}
use Rattle.sq_typed.specs.Blocks.{present}
use Rattle.sq_lists.specs.Values.{extreme}
use Rattle.sq_lists.proofs.aggregate.extreme.Given as goal

abbrev pub invariant-loop-value : goal.invariant-loop-value
invariant-loop-value l = option_copied l.chosen ≡ extreme l.greatest (present (take l.value-index l.values))
