use Rattle.std.proofs.Common.{◌≡◌, take}
use Rattle.sq_expr.specs.Meaning.{sum_of}
use Rattle.sq_typed.specs.Blocks.{present}
use Rattle.sq_lists.specs.Values.{IsSumOf, sum_value}
use Rattle.sq_lists.proofs.aggregate.sum_of.Given as goal

abbrev pub invariant-loop-i : goal.invariant-loop-i
invariant-loop-i l = (sum_value l.sum ≡ sum_of (present (take l.i l.values))) × IsSumOf l.i l.sum
