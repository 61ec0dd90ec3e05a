use Rattle.sq_agg.proofs.Adding.{accumulated-IsAdditive, accumulated-rows, accumulated-zero}
use Rattle.sq_agg.proofs.laws.accumulators_add_up.Goals as goal

pub returns-clause-sums : goal.returns-clause-sums
returns-clause-sums c calls = accumulated-IsAdditive calls

pub returns-clause-none : goal.returns-clause-none
returns-clause-none c calls = accumulated-zero calls

pub returns-clause-rows : goal.returns-clause-rows
returns-clause-rows c calls z = accumulated-rows calls z
