-- Verdicts view by view.
use Rattle.sq_circuit.proofs.Judging.{verdict_is_first}
use Rattle.sq_circuit.proofs.laws.verdicts_are_told_view_by_view.Goals as goal

pub returns : goal.returns
returns c a = verdict_is_first
