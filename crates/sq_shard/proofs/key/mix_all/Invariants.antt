use Rattle.std.proofs.Common.{◌≡◌, fold, take}
use Rattle.sq_shard.specs.Shards.{mixed}
use Rattle.sq_shard.proofs.key.mix_all.Given as goal

-- the bytes so far are in
abbrev pub invariant-loop-byte : goal.invariant-loop-byte
invariant-loop-byte l = l.h ≡ fold mixed l.start (take l.byte-index l.bytes)
