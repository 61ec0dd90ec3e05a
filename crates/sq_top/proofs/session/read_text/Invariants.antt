use Rattle.std.proofs.Common.{◌-◌, length}
use Rattle.sq_ticks.specs.Seen.{seen}
use Rattle.sq_top.proofs.Reading.{ReadSoFar}
use Rattle.sq_top.proofs.session.read_text.Given as goal

abbrev pub invariant-loop-count : goal.invariant-loop-count
invariant-loop-count g l = ReadSoFar l.limit (seen (g.S.Source.left l.fn.input) (g.S.Source.faults l.fn.input)) (seen (g.S.Source.left l.input) (g.S.Source.faults l.input)) l.text

abbrev pub decreases-loop-count : goal.decreases-loop-count
decreases-loop-count g l = l.limit - length l.text.bytes.items
