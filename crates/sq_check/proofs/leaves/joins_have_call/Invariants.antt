use Rattle.std.proofs.Common.{◌≡◌, take}
use Rattle.std.specs.List.{list_any}
use Rattle.sq_scope.specs.TypesLeaves.{join_has_call}
use Rattle.sq_check.proofs.leaves.joins_have_call.Given as goal

-- whether a call stands in the joins so far
abbrev pub invariant-loop-source : goal.invariant-loop-source
invariant-loop-source l = l.found ≡ list_any (λ j. join_has_call j.join) (take l.source-index l.sources)
