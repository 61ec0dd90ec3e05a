use Rattle.std.proofs.Common.{length}
use Rattle.sq_plan.proofs.sets.+push_wider.Given as goal

abbrev pub decreases-push_wider : goal.decreases-push_wider
decreases-push_wider l = length l.kinds.now
