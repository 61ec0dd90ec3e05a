use Rattle.std.specs.Prelude.{option_copied}
use Rattle.sq_algebra.specs.Groups.{integers}
use Rattle.sq_trace.specs.Runs.{content}
use Rattle.sq_trace.specs.Extremes.{weight_after}
use Rattle.sq_trace.specs.Ends.{left_of}
use Rattle.sq_trace.proofs.Firsts.{DoneAreGone}
use Rattle.sq_trace.proofs.kept.first_held.Given as goal

abbrev pub invariant-loop-row : goal.invariant-loop-row
invariant-loop-row l = DoneAreGone l.side l.key (weight_after l.key l.parts l.change) (λ q. content integers (l.key, q) l.parts) (option_copied l.last)

abbrev pub decreases-loop-row : goal.decreases-loop-row
decreases-loop-row l = left_of l.side l.key l.parts (option_copied l.last)
