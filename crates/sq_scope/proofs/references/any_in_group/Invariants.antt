use Rattle.std.proofs.Common.{◌≡◌, take}
use Rattle.std.specs.List.{list_any}
use Rattle.sq_scope.specs.NamesReferences.{is_at_fault}
use Rattle.sq_scope.proofs.references.any_in_group.Given as goal

abbrev pub invariant-loop-r : goal.invariant-loop-r
invariant-loop-r l = l.any ≡ list_any (is_at_fault l.fault l.scope) (take l.r-index l.group)
