use Rattle.std.proofs.Common.{take}
use Rattle.std.specs.Prelude.{option_copied}
use Rattle.sq_trace.specs.Runs.{content}
use Rattle.sq_trace.specs.Ends.{NextOf, left_of}
use Rattle.sq_trace.proofs.next.next_of.Given as goal

abbrev pub invariant-loop-part : goal.invariant-loop-part
invariant-loop-part g l = NextOf g.P.Group.addition l.side l.key (option_copied l.last) (λ q. content g.P.Group.addition (l.key, q) (take l.part-index l.parts)) (left_of l.side l.key (take l.part-index l.parts)) (option_copied l.best)
