use Rattle.std.proofs.Common.{◌∙◌, ap, Err}
use Rattle.sq_trace.proofs.Commits.{never_outside}
use Rattle.sq_trace.proofs.rows.merge_in_range.Goals as goal

pub unreachable-requires : goal.unreachable-requires
unreachable-requires g c =
    never_outside g.P.Group.addition g.P.Group.first_outside c.args.left.now c.args.right.now c.in-Err-Weight.field-0-0 c.requires.in_range
    (c.merge.ensures.outside c.in-Err-Weight.field-0-0 (c.in-Err-Weight.is ∙ ap Err c.in-Err-Weight.field-0-is))
