use Rattle.std.specs.BTreeMap.{keys}
use Rattle.std.specs.Map.{keys_of}
use Rattle.sq_agg.proofs.Shown.{Shown}
use Rattle.sq_agg.proofs.whole.rows_shown.Given as goal

-- the iterator is the list of the groups that are left
abbrev pub invariant-loop-key : goal.invariant-loop-key
invariant-loop-key l = Shown l.spec l.z (keys l.groups) (keys_of l.key-iterator) l.rows.items
