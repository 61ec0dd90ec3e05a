use Rattle.sq_claims.proofs.Gatherings.{claimed_all}
use Rattle.sq_claims.proofs.board.Board.close.Goals as goal

pub returns-clause-claimed : goal.returns-clause-claimed
returns-clause-claimed c = claimed_all _ _ _ _ _ c.gathered-seat.ensures c.read.ensures
