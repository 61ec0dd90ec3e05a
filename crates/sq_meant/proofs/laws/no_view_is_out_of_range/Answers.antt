use Rattle.sq_meant.proofs.Ranges.{few_listed, in_range}
use Rattle.sq_meant.proofs.laws.no_view_is_out_of_range.Goals as goal

pub returns-clause-in_range : goal.returns-clause-in_range
returns-clause-in_range c = in_range

pub returns-clause-few : goal.returns-clause-few
returns-clause-few c = few_listed
