use Rattle.std.proofs.Common.{◌≡◌, take, true}
use Rattle.std.specs.List.{list_all}
use Rattle.sq_incr.specs.Slots.{is_done}
use Rattle.sq_incr.proofs.store.Line.are_done.Given as goal

abbrev pub invariant-loop-slot : goal.invariant-loop-slot
invariant-loop-slot l = list_all is_done (take l.slot-index l.slot-items) ≡ true
