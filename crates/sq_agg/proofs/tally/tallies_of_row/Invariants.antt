use Rattle.std.proofs.Common.{◌≡◌, map, take}
use Rattle.std.specs.List.{AllByRecursion}
use Rattle.sq_ops.specs.Measures.{weighted}
use Rattle.sq_agg.specs.Accumulators.{call_tally}
use Rattle.sq_agg.specs.Tallies.{IsWithin}
use Rattle.sq_agg.proofs.tally.tallies_of_row.Given as goal

abbrev pub invariant-loop-call : goal.invariant-loop-call
invariant-loop-call l = (l.list.items ≡ map (call_tally (weighted l.row l.weight)) (take l.call-index l.calls)) × AllByRecursion IsWithin l.list.items
