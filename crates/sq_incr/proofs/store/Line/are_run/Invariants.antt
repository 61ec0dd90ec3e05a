use Rattle.std.proofs.Common.{◌≡◌, take, true}
use Rattle.std.specs.List.{list_all}
use Rattle.sq_incr.specs.Slots.{is_run}
use Rattle.sq_incr.proofs.store.Line.are_run.Given as goal

abbrev pub invariant-loop-slot : goal.invariant-loop-slot
invariant-loop-slot l = list_all is_run (take l.slot-index l.slot-items) ≡ true
