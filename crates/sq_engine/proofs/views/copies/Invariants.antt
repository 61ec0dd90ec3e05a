use Rattle.std.proofs.Common.{◌≡◌, map, take}
use Rattle.sq_incr.specs.Slots.{change_in}
use Rattle.sq_engine.specs.Ticking.{line_at}
use Rattle.sq_engine.proofs.views.copies.Given as goal

-- the changes in the first shards
abbrev pub invariant-loop-shard : goal.invariant-loop-shard
invariant-loop-shard l = l.zs.items ≡ map change_in (take l.shard (line_at l.pieces l.node))
