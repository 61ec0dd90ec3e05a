use Rattle.std.proofs.Common.{take}
use Rattle.sq_trace.specs.Looking.{AreAllRows}
use Rattle.sq_trace.proofs.rows.all_rows.Given as goal

abbrev pub invariant-loop-part : goal.invariant-loop-part
invariant-loop-part g l = AreAllRows g.P.Group.addition g.P.Group.first_outside (take l.part-index l.parts) l.rows.items
