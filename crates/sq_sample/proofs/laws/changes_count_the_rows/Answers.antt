use Rattle.sq_sample.proofs.Printing.{start_counts, tick_counts}
use Rattle.sq_sample.proofs.laws.changes_count_the_rows.Goals as goal

pub returns-clause-start : goal.returns-clause-start
returns-clause-start c = start_counts

pub returns-clause-tick : goal.returns-clause-tick
returns-clause-tick c = tick_counts
