use Rattle.std.proofs.Common.{ap}
use Rattle.sq_algebra.specs.ZSet.{plus}
use Rattle.sq_ops.specs.Aggregates.{rows_of_group}
use Rattle.sq_agg.specs.Kept.{has_ends}
use Rattle.sq_agg.proofs.Ends.{after_change, greatest_told, group_proper, least_told, none_told}
use Rattle.sq_agg.proofs.laws.kept_arguments_tell_extremes.Goals as goal

pub returns-clause-least : goal.returns-clause-least
returns-clause-least _ a row least =
    least_told a.call.arg (rows_of_group a.spec (plus a.z a.d) a.group) (group_proper a.spec a.parts a.z a.d a.group a.number a.call a.proper) _
    (after_change a.spec a.parts a.z a.d a.group a.number a.call a.held a.found (ap has_ends a.is)) row least

pub returns-clause-greatest : goal.returns-clause-greatest
returns-clause-greatest _ a row greatest =
    greatest_told a.call.arg (rows_of_group a.spec (plus a.z a.d) a.group) (group_proper a.spec a.parts a.z a.d a.group a.number a.call a.proper) _
    (after_change a.spec a.parts a.z a.d a.group a.number a.call a.held a.found (ap has_ends a.is)) row greatest

pub returns-clause-no_least : goal.returns-clause-no_least
returns-clause-no_least _ a none =
    (none_told a.call.arg (rows_of_group a.spec (plus a.z a.d) a.group) (group_proper a.spec a.parts a.z a.d a.group a.number a.call a.proper) _
    (after_change a.spec a.parts a.z a.d a.group a.number a.call a.held a.found (ap has_ends a.is)) none).0

pub returns-clause-no_greatest : goal.returns-clause-no_greatest
returns-clause-no_greatest _ a none =
    (none_told a.call.arg (rows_of_group a.spec (plus a.z a.d) a.group) (group_proper a.spec a.parts a.z a.d a.group a.number a.call a.proper) _
    (after_change a.spec a.parts a.z a.d a.group a.number a.call a.held a.found (ap has_ends a.is)) none).1
