use Rattle.std.proofs.Common.{◌-◌}
use Rattle.sq_workers.specs.Work.{IsAtWork}
use Rattle.sq_workers.proofs.Sums.{next_free}
use Rattle.sq_workers.proofs.worker.run_claims.Given as goal

abbrev pub invariant-loop-task : goal.invariant-loop-task
invariant-loop-task g l = IsAtWork (g.J.Job.answers l.job) (g.J.Job.cost l.job) l.board l.worker

abbrev pub decreases-loop-task : goal.decreases-loop-task
decreases-loop-task g l = l.board.tasks - next_free l.worker.pass.claims
