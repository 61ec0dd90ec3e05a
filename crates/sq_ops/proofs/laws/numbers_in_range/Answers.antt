use Rattle.sq_ops.proofs.Ranges.{all_inside, items_inside, items_stored, none_outside}
use Rattle.sq_ops.proofs.laws.numbers_in_range.Goals as goal

pub returns-clause-numbers : goal.returns-clause-numbers
returns-clause-numbers c ns = (none_outside ns, all_inside ns)

pub returns-clause-items : goal.returns-clause-items
returns-clause-items c es row = (items_stored es row, items_inside es row)
