use Rattle.sq_ops.proofs.ListTies.{pairs_that_match}
use Rattle.sq_ops.proofs.list_laws.pairings_are_filters_of_pairs.Goals as goal

pub returns : goal.returns
returns c op rows others = pairs_that_match op rows others
