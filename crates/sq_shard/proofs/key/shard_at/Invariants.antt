use Rattle.std.proofs.Common.{◌≡◌, fold, take}
use Rattle.sq_expr.specs.Meaning.{columns_of}
use Rattle.sq_shard.specs.Shards.{onto}
use Rattle.sq_shard.proofs.key.shard_at.Given as goal

-- the columns so far are in
abbrev pub invariant-loop-column : goal.invariant-loop-column
invariant-loop-column l = l.h ≡ fold onto 0 (columns_of (take l.column-index l.columns) l.row)
