use Rattle.sq_ops.proofs.Arguments.{greatest_is_max, least_is_min, none_is_null}
use Rattle.sq_ops.proofs.extreme_laws.extremes_are_told_by_arguments.Goals as goal

pub returns-clause-least : goal.returns-clause-least
returns-clause-least c column z x proper least = least_is_min column z proper x least

pub returns-clause-greatest : goal.returns-clause-greatest
returns-clause-greatest c column z x proper greatest = greatest_is_max column z proper x greatest

pub returns-clause-none : goal.returns-clause-none
returns-clause-none c column z proper none = none_is_null column z proper none
