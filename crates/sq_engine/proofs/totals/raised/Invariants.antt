use Rattle.sq_engine.specs.Ticking.{EachAt, IsRaised}
use Rattle.sq_engine.proofs.totals.raised.Given as goal

abbrev pub invariant-loop-node : goal.invariant-loop-node
invariant-loop-node l = EachAt (IsRaised l.totals l.pieces) l.sums.items l.node
