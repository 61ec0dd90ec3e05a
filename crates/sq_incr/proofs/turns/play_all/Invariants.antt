use Rattle.std.proofs.Common.{◌≡◌}
use Rattle.sq_incr.proofs.Turning.{SoFar}
use Rattle.sq_incr.proofs.turns.play_all.Given as goal

abbrev pub invariant-loop-at : goal.invariant-loop-at
invariant-loop-at g l = record {
  far : SoFar l.circuit l.states l.totals l.changes l.first l.order l.at l.lines.items l.fn.steps.count l.steps.count;
  ledger : l.steps.ledger ≡ l.fn.steps.ledger;
}
