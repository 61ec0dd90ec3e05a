use Rattle.sq_expr.proofs.Limits.{SumSoFar, ProductSoFar}
use Rattle.sq_expr.proofs.limit.+bound.Given as goal

-- the bounds of the terms so far are added up, and each is within the limit
abbrev pub invariant-loop-term : goal.invariant-loop-term
invariant-loop-term l = SumSoFar l.kinds l.term-items l.term-index l.sum

-- the bounds of the factors so far are multiplied, and each is within the limit
abbrev pub invariant-loop-factor : goal.invariant-loop-factor
invariant-loop-factor l = ProductSoFar l.kinds l.factor-items l.factor-index l.product
