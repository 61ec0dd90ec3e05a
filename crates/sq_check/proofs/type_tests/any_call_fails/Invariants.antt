use Rattle.std.proofs.Common.{◌≡◌, take}
use Rattle.std.specs.List.{list_any}
use Rattle.sq_check.specs.TypesTests.{call_fails}
use Rattle.sq_check.proofs.type_tests.any_call_fails.Given as goal

-- whether a call so far fails
abbrev pub invariant-loop-call : goal.invariant-loop-call
invariant-loop-call l = l.found ≡ list_any (call_fails l.test l.kinds) (take l.call-index l.calls)
