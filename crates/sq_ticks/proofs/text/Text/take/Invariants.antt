use Rattle.std.proofs.Common.{◌≡◌, ◌++◌, take}
use Rattle.sq_ticks.specs.Begun.{IsOpen}
use Rattle.sq_ticks.proofs.text.Text.take.Given as goal

abbrev pub invariant-loop-i : goal.invariant-loop-i
invariant-loop-i l = (l.self.bytes.items ≡ l.fn.self.bytes.items ++ take l.i l.piece) × IsOpen l.self.bytes.items l.self.line
