use Rattle.std.proofs.Common.{◌≡◌, None, take}
use Rattle.sq_trace.specs.Runs.{Place}
use Rattle.sq_trace.specs.Changes.{changed}
use Rattle.sq_trace.proofs.totals.test_change.Given as goal

abbrev pub invariant-loop-entry : goal.invariant-loop-entry
invariant-loop-entry g l = (p : Place) → g.P.Group.first_outside (changed g.P.Group.addition l.parts (take l.entry-index l.change) p) ≡ None
