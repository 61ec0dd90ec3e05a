use Rattle.std.proofs.Common.{◌≡◌, fold, take}
use Rattle.sq_shard.specs.Shards.{onto}
use Rattle.sq_shard.proofs.key.shard_of.Given as goal

-- the values so far are in
abbrev pub invariant-loop-i : goal.invariant-loop-i
invariant-loop-i l = l.h ≡ fold onto 0 (take l.i l.key)
