use Rattle.std.proofs.Common.{◌∙◌, ap}
use Rattle.sq_algebra.specs.ZSet.{of_list}
use Rattle.sq_value.specs.Order.{row_cmp}
use Rattle.sq_distinct.proofs.Above.{counted_above}
use Rattle.sq_distinct.proofs.whole.distinct_whole.Goals as goal

pub returns-clause-ok : goal.returns-clause-ok
returns-clause-ok c = c.in_ok-answer.ensures.ok ∙ ap (of_list row_cmp) c.in_ok-rows.ensures ∙ counted_above c.args.z.now
