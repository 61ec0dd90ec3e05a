use Rattle.sq_top.proofs.PrefixLemmas.{prefix_taken}
use Rattle.sq_top.proofs.statuses.put_line.Goals as goal

pub returns-clause-prefix : goal.returns-clause-prefix
returns-clause-prefix g c = prefix_taken c.put_all.result _ _ _ c.put_all.ensures.all c.put_all.ensures.prefix
