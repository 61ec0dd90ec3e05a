use Rattle.std.proofs.Common.{◌-◌, ◌≡◌, ◌≤◌, replicate}
use Rattle.sq_claims.specs.Claims.{fresh}
use Rattle.sq_claims.specs.Hands.{IsNewSeat}
use Rattle.sq_claims.proofs.board.Board.passes.Given as goal

abbrev pub invariant-loop-left : goal.invariant-loop-left
invariant-loop-left l = (1 ≤ l.left) × (l.left ≤ l.count) × IsNewSeat l.self l.left l.seat.table_id l.seat.me
    × (l.all.items ≡ replicate (l.count - l.left) (fresh l.self))

abbrev pub decreases-loop-left : goal.decreases-loop-left
decreases-loop-left l = l.left - 1
