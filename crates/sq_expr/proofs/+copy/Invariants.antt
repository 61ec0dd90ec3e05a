use Rattle.std.proofs.Common.{◌≡◌, take}
use Rattle.sq_expr.proofs.+copy.Given as goal

-- the factors so far are copied
abbrev pub invariant-copy::clone_factors-loop-factor : goal.invariant-copy::clone_factors-loop-factor
invariant-copy::clone_factors-loop-factor l = l.copies ≡ take l.factor-index l.factor-items

-- the terms so far are copied
abbrev pub invariant-copy::clone_terms-loop-term : goal.invariant-copy::clone_terms-loop-term
invariant-copy::clone_terms-loop-term l = l.copies ≡ take l.term-index l.term-items
