use Rattle.sq_sample.proofs.Ranges.{begins_behind, starts_in_range, ticks_in_range}
use Rattle.sq_sample.proofs.laws.no_tick_is_out_of_range.Goals as goal

pub returns-clause-start : goal.returns-clause-start
returns-clause-start c = starts_in_range

pub returns-clause-behind : goal.returns-clause-behind
returns-clause-behind c = λ parts shards seed plan. begins_behind parts plan shards seed

pub returns-clause-tick : goal.returns-clause-tick
returns-clause-tick c = ticks_in_range
