-- What becomes of the tasks of a tick.
use Rattle.sq_incr.proofs.Running.{any_order, left_pieces, playable}
use Rattle.sq_incr.proofs.laws.tasks_that_run_leave_their_pieces.Goals as goal

pub returns-clause-playable : goal.returns-clause-playable
returns-clause-playable a = λ first c n old change earlier above. playable first c n above old change earlier

pub returns-clause-orders : goal.returns-clause-orders
returns-clause-orders a = λ first c n old change earlier above. any_order first c n above old change earlier

pub returns-clause-pieces : goal.returns-clause-pieces
returns-clause-pieces a = λ first c n old change earlier above. left_pieces first c n above old change earlier
