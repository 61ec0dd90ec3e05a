use Rattle.std.proofs.Common.{◌≡◌, pos, replicate}
use Rattle.sq_engine.proofs.fresh.no_totals.Given as goal

abbrev pub invariant-loop : goal.invariant-loop
invariant-loop l = l.totals.items ≡ replicate l.counter (pos 0)
