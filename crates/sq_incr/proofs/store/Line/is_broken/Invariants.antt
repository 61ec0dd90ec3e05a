use Rattle.std.proofs.Common.{◌≡◌, take, false}
use Rattle.std.specs.List.{list_any}
use Rattle.sq_incr.specs.Slots.{is_broken}
use Rattle.sq_incr.proofs.store.Line.is_broken.Given as goal

abbrev pub invariant-loop-slot : goal.invariant-loop-slot
invariant-loop-slot l = list_any is_broken (take l.slot-index l.slot-items) ≡ false
