use Rattle.sq_zset.proofs.RowOperators.{image-IsAdditive, keep-IsAdditive, product-left, product-right}
use Rattle.sq_zset.proofs.RowKeys.{at_key-IsAdditive}
use Rattle.sq_zset.proofs.laws.operators_on_rows_are_additive.Goals as goal

pub returns-clause-image : goal.returns-clause-image
returns-clause-image c = image-IsAdditive

pub returns-clause-test : goal.returns-clause-test
returns-clause-test c = keep-IsAdditive

pub returns-clause-key : goal.returns-clause-key
returns-clause-key c = at_key-IsAdditive

pub returns-clause-left : goal.returns-clause-left
returns-clause-left c = product-left

pub returns-clause-right : goal.returns-clause-right
returns-clause-right c = product-right
