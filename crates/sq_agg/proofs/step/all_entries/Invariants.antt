use Rattle.std.proofs.Common.{◌≡◌}
use Rattle.std.specs.Map.{keys_of}
use Rattle.sq_agg.proofs.Going.{Going}
use Rattle.sq_agg.proofs.step.all_entries.Given as goal

-- the iterator is the list of the groups that are left
abbrev pub invariant-loop-key : goal.invariant-loop-key
invariant-loop-key g l =
    Going l.spec l.acc l.ordered l.shown l.d l.first l.fn.steps.count (keys_of l.key-iterator) l.entered.accs.items l.entered.ordered.items l.entered.shown.items l.steps.count
    × (l.steps.ledger ≡ l.fn.steps.ledger)
