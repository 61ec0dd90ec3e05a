use Rattle.std.proofs.Common.{◌≡◌, ◌+◌, ◌<◌, ◌++◌, ◌^◌, ℕ, List, length}
use Rattle.std.specs.Vec.Iter.{into_iter_items}
use Rattle.sq_ticks.specs.Runs.{From, IsFar, ended_lines}
use Rattle.sq_ticks.proofs.Behind.{Along}
use Rattle.sq_ticks.proofs.play.take_piece.Given as goal

abbrev pub invariant-loop-raw : goal.invariant-loop-raw
invariant-loop-raw g l = (l.run.read + length (into_iter_items l.raw-iterator) < 2 ^ 59)
    × ((bytes : List ℕ) (from : From) → IsFar l.fn.program bytes from (g.K.Sink.taken l.fn.out) (g.K.Sink.faults l.fn.out) l.fn.run l.fn.cutter
    → Along l.fn.program (ended_lines l.fn.program (bytes ++ l.fn.piece)) from (g.K.Sink.taken l.out) (g.K.Sink.faults l.out) l.run (into_iter_items l.raw-iterator))
