use Rattle.std.proofs.Common.{◌≡◌, take}
use Rattle.sq_expr.proofs.+same.Given as goal

-- the terms so far are the same
abbrev pub invariant-same::same_terms-loop-i : goal.invariant-same::same_terms-loop-i
invariant-same::same_terms-loop-i l = take l.i l.terms ≡ take l.i l.others

-- the factors so far are the same
abbrev pub invariant-same::same_factors-loop-i : goal.invariant-same::same_factors-loop-i
invariant-same::same_factors-loop-i l = take l.i l.factors ≡ take l.i l.others
