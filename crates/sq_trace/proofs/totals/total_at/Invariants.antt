use Rattle.std.proofs.Common.{◌≡◌, take}
use Rattle.sq_trace.specs.Runs.{content}
use Rattle.sq_trace.proofs.totals.total_at.Given as goal

abbrev pub invariant-loop-part : goal.invariant-loop-part
invariant-loop-part g l = l.sum ≡ content g.P.Group.addition (l.key, l.row) (take l.part-index l.parts)
