use Rattle.sq_typed.proofs.WithinLemmas.{views_keep_early}
use Rattle.sq_typed.proofs.fit_laws.accepted_programs_keep_early.Goals as goal

-- src/fit_laws.rt
pub returns : goal.returns
returns c = views_keep_early
