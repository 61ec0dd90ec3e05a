use Rattle.std.proofs.Common.{◌≡◌, take}
use Rattle.sq_zset.specs.Merge.{signed_entries}
use Rattle.sq_zset.proofs.merge.copy_entries.Given as goal

abbrev pub invariant-loop-entry : goal.invariant-loop-entry
invariant-loop-entry l = l.list.items ≡ signed_entries l.sign (take l.entry-index l.entries)
