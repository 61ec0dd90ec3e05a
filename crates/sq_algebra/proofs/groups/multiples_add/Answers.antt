use Rattle.sq_algebra.proofs.GroupLemmas.{times-negation, times-one, times-plus, times-sum, times-times, times-zero, times_of_zero}
use Rattle.sq_algebra.proofs.groups.multiples_add.Goals as goal

pub returns-clause-by_none : goal.returns-clause-by_none
returns-clause-by_none g c G laws = times-zero G laws

pub returns-clause-by_one : goal.returns-clause-by_one
returns-clause-by_one g c G laws = times-one G laws

pub returns-clause-by_sum : goal.returns-clause-by_sum
returns-clause-by_sum g c G laws = times-sum G laws

pub returns-clause-by_product : goal.returns-clause-by_product
returns-clause-by_product g c G laws = times-times G laws

pub returns-clause-by_negation : goal.returns-clause-by_negation
returns-clause-by_negation g c G laws = times-negation G laws

pub returns-clause-of_zero : goal.returns-clause-of_zero
returns-clause-of_zero g c G laws = times_of_zero G laws

pub returns-clause-of_sum : goal.returns-clause-of_sum
returns-clause-of_sum g c G laws = times-plus G laws
