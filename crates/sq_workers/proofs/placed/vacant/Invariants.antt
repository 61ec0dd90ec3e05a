use Rattle.std.proofs.Common.{◌≡◌, ◌+◌, length}
use Rattle.sq_workers.proofs.placed.vacant.Given as goal

abbrev pub invariant-loop-left : goal.invariant-loop-left
invariant-loop-left g l = length l.slots.items + l.left ≡ l.count

abbrev pub decreases-loop-left : goal.decreases-loop-left
decreases-loop-left g l = l.left
