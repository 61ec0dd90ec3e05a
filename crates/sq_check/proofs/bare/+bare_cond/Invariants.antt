use Rattle.std.proofs.Common.{◌≡◌, take}
use Rattle.std.specs.List.{list_any}
use Rattle.sq_typed.specs.Leaves.{exprs_in}
use Rattle.sq_check.specs.TypesBare.{bare_expr}
use Rattle.sq_check.proofs.bare.+bare_cond.Given as goal

-- whether such a column stands in the conditions so far
abbrev pub invariant-any_cond_is_bare-loop-cond : goal.invariant-any_cond_is_bare-loop-cond
invariant-any_cond_is_bare-loop-cond l = l.found ≡ list_any (λ c. list_any (bare_expr l.row l.keys.numbers) (exprs_in c)) (take l.cond-index l.conds)
