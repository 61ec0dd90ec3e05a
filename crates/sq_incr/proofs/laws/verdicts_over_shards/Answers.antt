-- Who is to blame, from what becomes of the tasks.
use Rattle.sq_incr.proofs.Blaming.{all_run, tested, told_verdict, totals}
use Rattle.sq_incr.proofs.laws.verdicts_over_shards.Goals as goal

pub returns-clause-tested : goal.returns-clause-tested
returns-clause-tested a = λ first c n old new change. tested first c n old change new

pub returns-clause-verdict : goal.returns-clause-verdict
returns-clause-verdict a = λ first c n old new change. told_verdict first c n old change new

pub returns-clause-ran : goal.returns-clause-ran
returns-clause-ran a = λ first c n old new change. all_run first c n old change new

pub returns-clause-totals : goal.returns-clause-totals
returns-clause-totals a = λ first c n old new change. totals first c n old change new
