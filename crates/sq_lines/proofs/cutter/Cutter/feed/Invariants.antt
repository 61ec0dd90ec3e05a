use Rattle.std.proofs.Common.{length}
use Rattle.sq_lines.proofs.CutLemmas.{Cuts}
use Rattle.sq_lines.proofs.cutter.Cutter.feed.Given as goal

abbrev pub invariant-loop-end : goal.invariant-loop-end
invariant-loop-end l = Cuts l.fn.self l.piece l.lines.items l.handed l.begun.items l.rest

abbrev pub decreases-loop-end : goal.decreases-loop-end
decreases-loop-end l = length l.rest
