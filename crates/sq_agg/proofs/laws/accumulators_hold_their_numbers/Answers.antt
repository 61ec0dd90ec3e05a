use Rattle.sq_agg.proofs.Adding.{count_held, rows_held, sum_held}
use Rattle.sq_agg.proofs.laws.accumulators_hold_their_numbers.Goals as goal

pub returns-clause-rows : goal.returns-clause-rows
returns-clause-rows c calls z = rows_held calls z

pub returns-clause-counts : goal.returns-clause-counts
returns-clause-counts c calls z i call e = count_held calls z i call e

pub returns-clause-sums : goal.returns-clause-sums
returns-clause-sums c calls z i call e = sum_held calls z i call e
