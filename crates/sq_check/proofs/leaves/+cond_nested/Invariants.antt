use Rattle.std.proofs.Common.{◌≡◌, take}
use Rattle.std.specs.List.{list_any}
use Rattle.sq_typed.specs.Leaves.{exprs_in}
use Rattle.sq_scope.specs.TypesLeaves.{has_nested_call}
use Rattle.sq_check.proofs.leaves.+cond_nested.Given as goal

-- whether a call nests in the conditions so far
abbrev pub invariant-any_cond_has_nested_call-loop-cond : goal.invariant-any_cond_has_nested_call-loop-cond
invariant-any_cond_has_nested_call-loop-cond l = l.found ≡ list_any (λ c. list_any has_nested_call (exprs_in c)) (take l.cond-index l.conds)
