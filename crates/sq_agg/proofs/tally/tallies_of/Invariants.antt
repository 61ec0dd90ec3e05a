use Rattle.std.proofs.Common.{◌≡◌, map, take}
use Rattle.sq_agg.specs.Accumulators.{call_tally}
use Rattle.sq_agg.proofs.tally.tallies_of.Given as goal

abbrev pub invariant-loop-call : goal.invariant-loop-call
invariant-loop-call l = l.list.items ≡ map (call_tally l.z) (take l.call-index l.calls)
