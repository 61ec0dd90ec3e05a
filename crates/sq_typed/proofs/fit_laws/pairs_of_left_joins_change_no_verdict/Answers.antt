use Rattle.sq_typed.proofs.WithinLemmas.{pairs_change_no_verdict}
use Rattle.sq_typed.proofs.fit_laws.pairs_of_left_joins_change_no_verdict.Goals as goal

-- src/fit_laws.rt
pub returns-clause-verdict : goal.returns-clause-verdict
returns-clause-verdict c = pairs_change_no_verdict
