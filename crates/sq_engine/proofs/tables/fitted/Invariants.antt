use Rattle.std.proofs.Common.{◌-◌, length}
use Rattle.sq_engine.proofs.Fitted.{IsFitted}
use Rattle.sq_engine.proofs.tables.fitted.Given as goal

abbrev pub invariant-loop-alloc : goal.invariant-loop-alloc
invariant-loop-alloc l = IsFitted l.fn.changes.items l.tables l.fitted.items

abbrev pub decreases-loop-alloc : goal.decreases-loop-alloc
decreases-loop-alloc l = l.tables - length l.fitted.items
