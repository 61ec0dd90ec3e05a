use Rattle.std.proofs.Common.{◌≡◌}
use Rattle.sq_expr.proofs.Truths.{least_so_far, greatest_so_far}
use Rattle.sq_expr.proofs.compute.+test_on.Given as goal

abbrev pub decreases-test_on : goal.decreases-test_on
decreases-test_on l = goal.size-test_on l

-- the least of the members so far
abbrev pub invariant-loop-member : goal.invariant-loop-member
invariant-loop-member l = l.all ≡ least_so_far l.row l.member-items l.member-index

-- the greatest of the choices so far
abbrev pub invariant-loop-choice : goal.invariant-loop-choice
invariant-loop-choice l = l.any ≡ greatest_so_far l.row l.choice-items l.choice-index
