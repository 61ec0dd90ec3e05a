-- The pieces of all tasks can be prepared.
use Rattle.sq_incr.proofs.Preparing.{can_prepare}
use Rattle.sq_incr.proofs.laws.pieces_can_be_prepared.Goals as goal

pub returns : goal.returns
returns a = λ c states totals changes first. can_prepare c states totals changes first
