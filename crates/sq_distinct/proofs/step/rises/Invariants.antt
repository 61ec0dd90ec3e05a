use Rattle.std.proofs.Common.{◌≡◌, ◌≤◌, ◌+◌, take}
use Rattle.sq_algebra.specs.ZSet.{entries}
use Rattle.sq_distinct.specs.Stepping.{held_weight, rises_of}
use Rattle.sq_zset.specs.Pairs.{weighted_rows}
use Rattle.sq_distinct.proofs.step.rises.Given as goal

-- the first rows, each with one step
abbrev pub invariant-loop-i : goal.invariant-loop-i
invariant-loop-i g l = (weighted_rows l.pairs.items ≡ rises_of (held_weight l.old) (take l.i (entries l.d))) × (l.steps.count ≤ l.fn.steps.count + l.i) × (l.steps.ledger ≡ l.fn.steps.ledger)
