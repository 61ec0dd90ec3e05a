use Rattle.std.proofs.Common.{◌≡◌, ◌≤◌, ◌-◌, Ok, All, take, length}
use Rattle.sq_workers.specs.declared.crew.Yield.{Yield}
use Rattle.sq_workers.proofs.placed.all_ended.Given as goal

abbrev pub invariant-loop-i : goal.invariant-loop-i
invariant-loop-i g l = (l.i ≤ length l.yields) × All (λ (y : Yield _). y.ended ≡ Ok tt) (take l.i l.yields)

abbrev pub decreases-loop-i : goal.decreases-loop-i
decreases-loop-i g l = length l.yields - l.i
