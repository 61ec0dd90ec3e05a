use Rattle.std.proofs.Common.{◌≡◌, take, true}
use Rattle.std.specs.List.{list_all}
use Rattle.sq_incr.specs.Slots.{is_done}
use Rattle.sq_incr.proofs.judge.first_open.Given as goal

abbrev pub invariant-loop-shard : goal.invariant-loop-shard
invariant-loop-shard l = list_all is_done (take l.shard l.line) ≡ true
