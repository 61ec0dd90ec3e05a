use Rattle.sq_algebra.proofs.NonNegativeLemmas.{list_all-repeated, nonnegative-of_list, of_list-repeated, total-repeated}
use Rattle.sq_algebra.proofs.nonnegative.nonnegative_is_a_list.Goals as goal

pub returns-clause-list : goal.returns-clause-list
returns-clause-list g c = nonnegative-of_list g.K.Ord.cmp g.met.K.Ord.total

pub returns-clause-repeated : goal.returns-clause-repeated
returns-clause-repeated g c = of_list-repeated g.K.Ord.cmp g.met.K.Ord.total

pub returns-clause-total : goal.returns-clause-total
returns-clause-total g c = total-repeated g.K.Ord.cmp g.met.K.Ord.total

pub returns-clause-test : goal.returns-clause-test
returns-clause-test g c = list_all-repeated g.K.Ord.cmp g.met.K.Ord.total
