use Rattle.std.proofs.Common.{◌≡◌, take}
use Rattle.std.specs.List.{flat_map, list_any}
use Rattle.sq_typed.specs.Leaves.{refs, exprs_in}
use Rattle.sq_scope.specs.NamesReferences.{is_at_fault}
use Rattle.sq_scope.specs.Scoped.{ons_from}
use Rattle.sq_scope.proofs.references.any_in_joins.Given as goal

abbrev pub invariant-loop-i : goal.invariant-loop-i
invariant-loop-i l = l.any ≡ list_any (λ on. list_any (is_at_fault l.fault on.0) (flat_map refs (exprs_in on.1))) (ons_from 0 l.scope (take l.i l.joins))
