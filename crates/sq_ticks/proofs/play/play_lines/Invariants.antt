use Rattle.std.proofs.Common.{◌-◌}
use Rattle.sq_ticks.specs.Seen.{seen}
use Rattle.sq_ticks.proofs.PlayingOn.{PlayingOn}
use Rattle.sq_ticks.proofs.play.play_lines.Given as goal

abbrev pub invariant-loop-cutter : goal.invariant-loop-cutter
invariant-loop-cutter g l = PlayingOn l.fn.judged.program l.limit l.fn.taken l.first (seen (g.S.Source.left l.fn.input) (g.S.Source.faults l.fn.input)) (seen (g.K.Sink.taken l.fn.out) (g.K.Sink.faults l.fn.out))
    l.fn.judged.engine.shards (seen (g.S.Source.left l.input) (g.S.Source.faults l.input)) (seen (g.K.Sink.taken l.out) (g.K.Sink.faults l.out)) l.taken l.run l.cutter

abbrev pub decreases-loop-cutter : goal.decreases-loop-cutter
decreases-loop-cutter g l = l.limit - l.taken
