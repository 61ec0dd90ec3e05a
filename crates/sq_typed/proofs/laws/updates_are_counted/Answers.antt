use Rattle.sq_typed.proofs.UpdateLemmas.{count_after}
use Rattle.sq_typed.proofs.laws.updates_are_counted.Goals as goal

pub returns : goal.returns
returns c = count_after
