use Rattle.std.proofs.Common.{◌≡◌, take}
use Rattle.sq_scope.specs.TypesGroups.{call_kinds}
use Rattle.sq_scope.proofs.grouped.call_kinds.Given as goal

-- the kinds of the calls so far
abbrev pub invariant-loop-call : goal.invariant-loop-call
invariant-loop-call l = l.typed ≡ call_kinds l.kinds (take l.call-index l.calls)
