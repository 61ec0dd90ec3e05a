use Rattle.sq_value.specs.Order.{value_cmp}
use Rattle.sq_value.specs.OrderLaws.{cmp-same, value_cmp-antisymmetric, value_cmp-total}
use Rattle.sq_value.proofs.laws.order_of_values.Goals as goal

pub returns : goal.returns
returns c = record { total = value_cmp-total; same = cmp-same value_cmp value_cmp-total value_cmp-antisymmetric }
