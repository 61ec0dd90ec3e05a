use Rattle.std.proofs.Common.{◌≡◌}
use Rattle.sq_sample.specs.Ticks.{d_updates}
use Rattle.sq_sample.proofs.ticks.insert_into_d.Given as goal

-- the updates of the rows so far
abbrev pub invariant-loop-k : goal.invariant-loop-k
invariant-loop-k l = l.updates.items ≡ d_updates l.k
