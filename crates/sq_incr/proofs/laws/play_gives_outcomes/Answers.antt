-- Play in any order.
use Rattle.sq_incr.proofs.Playing.{has_played, nothing_played, one_more, whole_played}
use Rattle.sq_incr.proofs.laws.play_gives_outcomes.Goals as goal

pub returns-clause-begun : goal.returns-clause-begun
returns-clause-begun a o = nothing_played

pub returns-clause-one_more : goal.returns-clause-one_more
returns-clause-one_more a o = one_more

pub returns-clause-legal : goal.returns-clause-legal
returns-clause-legal a o = has_played

pub returns-clause-whole : goal.returns-clause-whole
returns-clause-whole a o = whole_played
