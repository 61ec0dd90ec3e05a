use Rattle.sq_ops.proofs.Fitting.{rows_fit}
use Rattle.sq_ops.proofs.laws.rows_of_kinds_fit.Goals as goal

pub returns : goal.returns
returns g c op kinds z suitable all = rows_fit (g.O.Linear.suits op) kinds suitable z all
