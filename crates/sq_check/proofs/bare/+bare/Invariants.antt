use Rattle.std.proofs.Common.{◌≡◌, take}
use Rattle.std.specs.List.{list_any}
use Rattle.sq_check.specs.TypesBare.{bare_expr}
use Rattle.sq_check.proofs.bare.+bare.Given as goal

-- whether such a column stands in the terms so far
abbrev pub invariant-any_term_is_bare-loop-term : goal.invariant-any_term_is_bare-loop-term
invariant-any_term_is_bare-loop-term l = l.found ≡ list_any (λ t. bare_expr l.row l.keys.numbers t.expr) (take l.term-index l.terms)

-- and in the factors so far
abbrev pub invariant-any_factor_is_bare-loop-factor : goal.invariant-any_factor_is_bare-loop-factor
invariant-any_factor_is_bare-loop-factor l = l.found ≡ list_any (bare_expr l.row l.keys.numbers) (take l.factor-index l.factors)
