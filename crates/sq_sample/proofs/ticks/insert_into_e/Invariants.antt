use Rattle.sq_sample.proofs.Counting.{IsAt}
use Rattle.sq_sample.proofs.ticks.insert_into_e.Given as goal

-- the updates of the rows so far, with the generator at the next one
abbrev pub invariant-loop-i : goal.invariant-loop-i
invariant-loop-i l = IsAt l.seed l.fn.updates.items l.updates.items l.at.state l.at.number l.i
