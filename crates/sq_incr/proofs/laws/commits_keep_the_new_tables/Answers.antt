-- The states after a commit.
use Rattle.sq_incr.proofs.Committing.{kept_now}
use Rattle.sq_incr.proofs.laws.commits_keep_the_new_tables.Goals as goal

pub returns : goal.returns
returns a = λ c circuit states totals changes first. kept_now c states totals changes first circuit
