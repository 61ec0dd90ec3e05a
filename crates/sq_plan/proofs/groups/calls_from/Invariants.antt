use Rattle.std.proofs.Common.{◌≡◌, ◌++◌, ◌+◌, ◌≤◌, drop}
use Rattle.sq_bridge.specs.Groups.{calls_from}
use Rattle.sq_plan.proofs.groups.calls_from.Given as goal

abbrev pub invariant-loop-call : goal.invariant-loop-call
invariant-loop-call l = (l.own ++ calls_from l.free (drop l.call-index l.calls) ≡ calls_from l.first l.calls) × (l.free ≤ l.first + l.call-index)
