use Rattle.sq_zset.proofs.Rows.{of_list-append}
use Rattle.sq_zset.proofs.RowOperators.{image-of_list, keep-of_list, product-of_list, distinct-of_list, of_list-among, of_list-without}
use Rattle.sq_zset.proofs.laws.operators_on_rows_follow_lists.Goals as goal

pub returns-clause-joined : goal.returns-clause-joined
returns-clause-joined c = of_list-append

pub returns-clause-image : goal.returns-clause-image
returns-clause-image c = image-of_list

pub returns-clause-test : goal.returns-clause-test
returns-clause-test c = keep-of_list

pub returns-clause-product : goal.returns-clause-product
returns-clause-product c = product-of_list

pub returns-clause-distinct : goal.returns-clause-distinct
returns-clause-distinct c = distinct-of_list

pub returns-clause-among : goal.returns-clause-among
returns-clause-among c = of_list-among

pub returns-clause-without : goal.returns-clause-without
returns-clause-without c = of_list-without
