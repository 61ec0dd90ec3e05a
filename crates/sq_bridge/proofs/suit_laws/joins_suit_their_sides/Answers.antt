use Rattle.sq_bridge.proofs.Suiting.{all_suit, joins_suit, same_suit}
use Rattle.sq_bridge.proofs.suit_laws.joins_suit_their_sides.Goals as goal

pub returns-clause-joined : goal.returns-clause-joined
returns-clause-joined c = joins_suit

pub returns-clause-same : goal.returns-clause-same
returns-clause-same c = same_suit

pub returns-clause-together : goal.returns-clause-together
returns-clause-together c = all_suit
