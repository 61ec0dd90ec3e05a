use Rattle.std.proofs.Common.{◌≡◌, map, take}
use Rattle.sq_typed.specs.Numbered.{row_expr}
use Rattle.sq_scope.specs.TypesNumbered.{row_term}
use Rattle.sq_scope.proofs.numbered.+row.Given as goal

-- the terms so far are typed
abbrev pub invariant-row_terms-loop-term : goal.invariant-row_terms-loop-term
invariant-row_terms-loop-term l = l.typed ≡ map (row_term l.row) (take l.term-index l.terms)

-- the factors so far are typed
abbrev pub invariant-row_factors-loop-factor : goal.invariant-row_factors-loop-factor
invariant-row_factors-loop-factor l = l.typed ≡ map (row_expr l.row) (take l.factor-index l.factors)
