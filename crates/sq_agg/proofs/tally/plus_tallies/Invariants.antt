use Rattle.sq_agg.proofs.Summing.{Summed}
use Rattle.sq_agg.proofs.tally.plus_tallies.Given as goal

abbrev pub invariant-loop-i : goal.invariant-loop-i
invariant-loop-i l = Summed l.a l.b l.i l.list.items
