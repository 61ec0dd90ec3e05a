use Rattle.std.proofs.Common.{◌≡◌, take}
use Rattle.std.specs.List.{list_any}
use Rattle.sq_scope.specs.TypesLeaves.{has_nested_call}
use Rattle.sq_check.proofs.leaves.+nested.Given as goal

-- whether a call nests in the terms so far
abbrev pub invariant-term_has_nested_call-loop-term : goal.invariant-term_has_nested_call-loop-term
invariant-term_has_nested_call-loop-term l = l.found ≡ list_any (λ t. has_nested_call t.expr) (take l.term-index l.terms)

-- and in the expressions so far
abbrev pub invariant-any_has_nested_call-loop-expr : goal.invariant-any_has_nested_call-loop-expr
invariant-any_has_nested_call-loop-expr l = l.found ≡ list_any has_nested_call (take l.expr-index l.exprs)
