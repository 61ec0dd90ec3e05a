use Rattle.sq_value.specs.Order.{text_cmp}
use Rattle.sq_value.specs.OrderLaws.{cmp-same, text_cmp-antisymmetric, text_cmp-total}
use Rattle.sq_value.proofs.laws.order_of_texts.Goals as goal

pub returns : goal.returns
returns c = record { total = text_cmp-total; same = cmp-same text_cmp text_cmp-total text_cmp-antisymmetric }
