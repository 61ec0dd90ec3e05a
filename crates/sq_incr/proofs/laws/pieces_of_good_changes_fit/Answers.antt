-- Weights in range.
use Rattle.sq_incr.proofs.Fitting.{parts_fit, pieces_fit, unfit_is_faulty}
use Rattle.sq_incr.proofs.laws.pieces_of_good_changes_fit.Goals as goal

pub returns-clause-parts : goal.returns-clause-parts
returns-clause-parts a = λ first c n old new circuit. parts_fit c circuit first n old new

pub returns-clause-pieces : goal.returns-clause-pieces
returns-clause-pieces a = λ first c n old new change. pieces_fit first c n old change new

pub returns-clause-unfit : goal.returns-clause-unfit
returns-clause-unfit a = λ first c n old new change. unfit_is_faulty first c n old change new
