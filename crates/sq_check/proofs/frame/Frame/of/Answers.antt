use Rattle.sq_check.proofs.TypesFrames.{framed}
use Rattle.sq_check.proofs.frame.Frame.of.Goals as goal

pub returns : goal.returns
returns c = framed c.args.scope.now c.of-row.result c.args.block.now c.is_grouped.result c.in_ok-groups.groups c.kinds.result.now c.in_ok-group_kinds.group_kinds c.of-row.ensures c.is_grouped.ensures c.in_ok-groups.ensures.keys c.in_ok-groups.ensures.calls c.kinds.ensures c.in_ok-group_kinds.ensures
