use Rattle.std.proofs.Common.{◌≡◌, ◌++◌, take, map, false}
use Rattle.std.specs.List.{list_any}
use Rattle.sq_typed.specs.Blocks.{call_value}
use Rattle.sq_lists.specs.Values.{is_call_outside}
use Rattle.sq_lists.proofs.group.push_calls.Given as goal

abbrev pub invariant-loop-call : goal.invariant-loop-call
invariant-loop-call l = (l.to.items ≡ l.fn.to.items ++ map (λ c. call_value c.func c.arg l.rows) (take l.call-index l.calls)) × (list_any (is_call_outside l.rows) (take l.call-index l.calls) ≡ false)
