use Rattle.std.proofs.Common.{◌≡◌, ◌≤◌, ◌+◌, length}
use Rattle.sq_algebra.specs.ZSet.{entries}
use Rattle.sq_ops.proofs.Calling.{Called}
use Rattle.sq_agg.specs.Stepping.{GroupAfter, calls_cost, rows_after}
use Rattle.sq_agg.proofs.value.values_after.Given as goal

-- the values of the first calls, each within its cost
abbrev pub invariant-loop-i : goal.invariant-loop-i
invariant-loop-i g l =
    ((a : GroupAfter l.spec l.ordered l.key l.changed l.acc) → Called l.spec.calls (rows_after a) l.i l.values.items)
    × (l.steps.count ≤ l.fn.steps.count + calls_cost l.i (length (entries l.changed)))
    × (l.steps.ledger ≡ l.fn.steps.ledger)
