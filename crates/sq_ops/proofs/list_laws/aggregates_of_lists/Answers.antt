use Rattle.sq_ops.proofs.ListTies.{all_of_list, groups_of_list, value_of_list}
use Rattle.sq_ops.proofs.list_laws.aggregates_of_lists.Goals as goal

pub returns-clause-groups : goal.returns-clause-groups
returns-clause-groups c spec rows e = groups_of_list spec rows e

pub returns-clause-global : goal.returns-clause-global
returns-clause-global c spec rows e = all_of_list spec rows e

pub returns-clause-values : goal.returns-clause-values
returns-clause-values c f column rows = value_of_list f column rows
