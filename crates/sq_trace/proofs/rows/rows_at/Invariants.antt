use Rattle.std.proofs.Common.{take}
use Rattle.sq_trace.specs.Looking.{AreRowsOf}
use Rattle.sq_trace.proofs.rows.rows_at.Given as goal

abbrev pub invariant-loop-part : goal.invariant-loop-part
invariant-loop-part g l = AreRowsOf g.P.Group.addition g.P.Group.first_outside l.key (take l.part-index l.parts) l.rows.items
