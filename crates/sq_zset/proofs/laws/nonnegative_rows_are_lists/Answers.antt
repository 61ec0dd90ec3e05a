use Rattle.sq_zset.proofs.Rows.{list_all-repeated, of_list-repeated, total-repeated}
use Rattle.sq_zset.proofs.laws.nonnegative_rows_are_lists.Goals as goal

pub returns-clause-repeated : goal.returns-clause-repeated
returns-clause-repeated c = of_list-repeated

pub returns-clause-total : goal.returns-clause-total
returns-clause-total c = total-repeated

pub returns-clause-test : goal.returns-clause-test
returns-clause-test c = list_all-repeated
