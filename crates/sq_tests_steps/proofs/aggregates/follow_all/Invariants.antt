use Rattle.sq_tests_steps.specs.Followed.{Follows}
use Rattle.sq_tests_steps.proofs.aggregates.follow_all.Given as goal

-- the traces hold the rows so far
abbrev pub invariant-loop-change : goal.invariant-loop-change
invariant-loop-change l = Follows l.first l.spec l.kept.acc l.kept.ordered l.kept.shown l.kept.rows
