use Rattle.std.proofs.Common.{◌≡◌, take, true}
use Rattle.std.specs.List.{list_all}
use Rattle.sq_incr.specs.Slots.{is_done}
use Rattle.sq_incr.proofs.judge.first_missing.Given as goal

abbrev pub invariant-loop-node : goal.invariant-loop-node
invariant-loop-node l = list_all (list_all is_done) (take l.node l.lines) ≡ true
