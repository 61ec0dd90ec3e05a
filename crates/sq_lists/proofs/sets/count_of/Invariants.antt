use Rattle.std.proofs.Common.{◌≡◌, take}
use Rattle.sq_value.specs.Count.{count}
use Rattle.sq_lists.proofs.sets.count_of.Given as goal

abbrev pub invariant-loop-other : goal.invariant-loop-other
invariant-loop-other l = l.found ≡ count l.row (take l.other-index l.rows)
