use Rattle.sq_states.proofs.Staying.{piece_stays}
use Rattle.sq_states.proofs.laws.pieces_stay_in_range.Goals as goal

pub returns : goal.returns
returns c = λ n kept left right first b p. piece_stays b p
