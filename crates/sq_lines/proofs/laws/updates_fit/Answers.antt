use Rattle.sq_lines.proofs.FitLemmas.{update_fits}
use Rattle.sq_lines.proofs.laws.updates_fit.Goals as goal

pub returns : goal.returns
returns c = update_fits
