use Rattle.sq_top.proofs.Telling.{untouched_ran}
use Rattle.sq_top.proofs.calls.top.Goals as goal

pub returns-then-not-is_empty-clause-ran : goal.returns-then-not-is_empty-clause-ran
returns-then-not-is_empty-clause-ran g c = untouched_ran _ _ _
