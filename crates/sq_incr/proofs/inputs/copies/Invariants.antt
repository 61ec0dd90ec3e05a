use Rattle.std.proofs.Common.{◌≡◌, map, take}
use Rattle.sq_incr.specs.Slots.{change_in}
use Rattle.sq_incr.proofs.inputs.copies.Given as goal

-- the changes of the first shards
abbrev pub invariant-loop-shard : goal.invariant-loop-shard
invariant-loop-shard l = l.zs.items ≡ map change_in (take l.shard l.line)
