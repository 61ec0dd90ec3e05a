use Rattle.std.proofs.Common.{◌≡◌, take}
use Rattle.sq_scope.specs.TypesGroups.{key_kinds}
use Rattle.sq_scope.proofs.grouped.key_kinds.Given as goal

-- the kinds of the columns so far
abbrev pub invariant-loop-number : goal.invariant-loop-number
invariant-loop-number l = l.typed ≡ key_kinds l.kinds (take l.number-index l.numbers)
