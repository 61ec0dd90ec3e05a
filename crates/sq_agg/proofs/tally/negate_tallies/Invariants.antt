use Rattle.std.proofs.Common.{◌≡◌, map, take}
use Rattle.sq_agg.specs.Tallies.{turned}
use Rattle.sq_agg.proofs.tally.negate_tallies.Given as goal

abbrev pub invariant-loop-tally : goal.invariant-loop-tally
invariant-loop-tally l = l.list.items ≡ map turned (take l.tally-index l.tallies)
