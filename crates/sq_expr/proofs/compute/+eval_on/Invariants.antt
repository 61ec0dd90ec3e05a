use Rattle.std.proofs.Common.{◌≡◌}
use Rattle.sq_expr.specs.Meaning.{value_of}
use Rattle.sq_expr.proofs.Exact.{sum_so_far, product_so_far}
use Rattle.sq_expr.proofs.compute.+eval_on.Given as goal

abbrev pub decreases-eval_on : goal.decreases-eval_on
decreases-eval_on l = goal.size-eval_on l

-- the terms so far are summed up
abbrev pub invariant-loop-term : goal.invariant-loop-term
invariant-loop-term l = value_of l.sum ≡ sum_so_far l.row l.term-items l.term-index

-- the factors so far are multiplied
abbrev pub invariant-loop-factor : goal.invariant-loop-factor
invariant-loop-factor l = value_of l.product ≡ product_so_far l.row l.factor-items l.factor-index
