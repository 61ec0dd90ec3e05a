use Rattle.std.proofs.Common.{◌≡◌, take}
use Rattle.std.specs.List.{list_any}
use Rattle.sq_typed.specs.Faults.{sums_text}
use Rattle.sq_check.proofs.type_tests.any_sums_text.Given as goal

-- whether a call so far is a SUM of a text
abbrev pub invariant-loop-call : goal.invariant-loop-call
invariant-loop-call l = l.found ≡ list_any (λ c. sums_text l.kinds c.func c.arg) (take l.call-index l.calls)
