use Rattle.std.proofs.Common.{◌≡◌, take}
use Rattle.std.specs.List.{flat_map, list_any}
use Rattle.sq_typed.specs.Leaves.{refs, exprs_in}
use Rattle.sq_scope.specs.NamesReferences.{is_at_fault}
use Rattle.sq_scope.proofs.references.+conds.Given as goal

abbrev pub invariant-any_in_conds-loop-cond : goal.invariant-any_in_conds-loop-cond
invariant-any_in_conds-loop-cond l = l.any ≡ list_any (λ c. list_any (is_at_fault l.fault (take l.sources l.scope)) (flat_map refs (exprs_in c))) (take l.cond-index l.cond-items)
