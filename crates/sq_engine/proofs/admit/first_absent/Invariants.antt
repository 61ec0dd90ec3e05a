use Rattle.std.proofs.Common.{◌≡◌, ◌≤◌, ◌+◌}
use Rattle.sq_tables.specs.Tables.{tables_in}
use Rattle.sq_engine.proofs.Absent.{IsGoing}
use Rattle.sq_engine.proofs.admit.first_absent.Given as goal

-- the first updates found their rows, each in one step at most
abbrev pub invariant-loop-update : goal.invariant-loop-update
invariant-loop-update g l = IsGoing (tables_in l.circuit l.states) l.updates l.update-index l.counts.items × (l.steps.count ≤ l.fn.steps.count + l.update-index) × (l.steps.ledger ≡ l.fn.steps.ledger)
