use Rattle.std.proofs.Common.{◌≡◌, false, take}
use Rattle.std.specs.List.{list_any}
use Rattle.sq_typed.specs.Numbered.{is_same_call}
use Rattle.sq_scope.proofs.calls.call_place.Given as goal

-- no call so far is the same
abbrev pub invariant-loop-i : goal.invariant-loop-i
invariant-loop-i l = list_any (is_same_call l.call) (take l.i l.calls) ≡ false
