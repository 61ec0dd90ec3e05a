use Rattle.std.proofs.Common.{◌≡◌, ◌≤◌, ◌-◌}
use Rattle.sq_trace.specs.Looking.{stepped}
use Rattle.sq_trace.proofs.trace.step.Given as goal

abbrev pub invariant-loop-taken : goal.invariant-loop-taken
invariant-loop-taken g l = (l.taken ≤ l.n) × (l.steps.count ≡ stepped l.taken l.initial.steps.count) × (l.steps.ledger ≡ l.initial.steps.ledger)

abbrev pub decreases-loop-taken : goal.decreases-loop-taken
decreases-loop-taken g l = l.n - l.taken
