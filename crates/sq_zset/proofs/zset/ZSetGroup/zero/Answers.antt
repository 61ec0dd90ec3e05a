use Rattle.std.proofs.Common.{ap, ◌∙◌}
use Rattle.sq_zset.specs.GroupLaws.{no_rows_are_in_range}
use Rattle.sq_zset.specs.Range.{first_outside}
use Rattle.sq_zset.proofs.zset.ZSetGroup.zero.Goals as goal

pub returns-clause-in_range : goal.returns-clause-in_range
returns-clause-in_range c = ap first_outside c.empty.ensures ∙ no_rows_are_in_range
