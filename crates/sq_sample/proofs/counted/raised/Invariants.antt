use Rattle.std.proofs.Common.{◌≡◌, take}
use Rattle.sq_sample.specs.Running.{wrapped}
use Rattle.sq_sample.proofs.counted.raised.Given as goal

-- the sums so far
abbrev pub invariant-loop-i : goal.invariant-loop-i
invariant-loop-i l = l.sums.items ≡ take l.i (wrapped l.numbers l.views)
