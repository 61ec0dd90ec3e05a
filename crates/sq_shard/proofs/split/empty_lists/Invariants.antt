use Rattle.std.proofs.Common.{◌≡◌, [], map, replicate, vec_items}
use Rattle.sq_shard.proofs.split.empty_lists.Given as goal

-- so many lists are there
abbrev pub invariant-loop : goal.invariant-loop
invariant-loop l = map vec_items l.lists.items ≡ replicate l.counter []
