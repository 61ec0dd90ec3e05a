use Rattle.sq_value.specs.Order.{row_cmp}
use Rattle.sq_value.specs.OrderLaws.{cmp-same, row_cmp-antisymmetric, row_cmp-total}
use Rattle.sq_value.proofs.laws.order_of_rows.Goals as goal

pub returns : goal.returns
returns c = record { total = row_cmp-total; same = cmp-same row_cmp row_cmp-total row_cmp-antisymmetric }
