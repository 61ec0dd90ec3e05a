use Rattle.sq_claims.specs.Hands.{Gathering}
use Rattle.sq_claims.proofs.board.Board.gathered.Given as goal

abbrev pub invariant-loop-pass : goal.invariant-loop-pass
invariant-loop-pass l = Gathering l.self l.fn.passes.items l.passes.items l.seat.table_id l.seat.me

abbrev pub decreases-loop-pass : goal.decreases-loop-pass
decreases-loop-pass l = goal.left-loop-pass l
