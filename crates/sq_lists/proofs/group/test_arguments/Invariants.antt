use Rattle.std.proofs.Common.{◌≡◌, take, false}
use Rattle.std.specs.List.{list_any}
use Rattle.sq_lists.specs.Values.{is_argument_outside}
use Rattle.sq_lists.proofs.group.test_arguments.Given as goal

abbrev pub invariant-loop-call : goal.invariant-loop-call
invariant-loop-call l = list_any (is_argument_outside l.rows) (take l.call-index l.calls) ≡ false
