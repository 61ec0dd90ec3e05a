use Rattle.std.proofs.Common.{◌*◌, ◌^◌, ◌≤◌, length}
use Rattle.sq_zset.specs.Pairs.{mass}
use Rattle.sq_tests_steps.proofs.rows.zset_of_two.Given as goal

-- no weight so far is above 2^63
abbrev pub invariant-loop-item : goal.invariant-loop-item
invariant-loop-item l = mass l.pairs.items ≤ length l.pairs.items * 2 ^ 63
