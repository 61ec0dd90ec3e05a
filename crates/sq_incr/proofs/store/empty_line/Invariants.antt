use Rattle.std.proofs.Common.{◌≡◌, replicate}
use Rattle.sq_incr.specs.declared.store.Slot.TheVariants.{Open}
use Rattle.sq_incr.proofs.store.empty_line.Given as goal

abbrev pub invariant-loop : goal.invariant-loop
invariant-loop l = l.slots.items ≡ replicate l.counter Open
