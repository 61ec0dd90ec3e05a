use Rattle.std.proofs.Common.{◌≡◌, take, map}
use Rattle.sq_expr.specs.Shifted.{shifted, shifted_term}
use Rattle.sq_expr.proofs.+shift.Given as goal

-- the terms so far are shifted
abbrev pub invariant-shift::shifted_terms-loop-term : goal.invariant-shift::shifted_terms-loop-term
invariant-shift::shifted_terms-loop-term l = l.found ≡ map (shifted_term l.by) (take l.term-index l.term-items)

-- the factors so far are shifted
abbrev pub invariant-shift::shifted_factors-loop-factor : goal.invariant-shift::shifted_factors-loop-factor
invariant-shift::shifted_factors-loop-factor l = l.found ≡ map (shifted l.by) (take l.factor-index l.factor-items)
