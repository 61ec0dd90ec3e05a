use Rattle.std.proofs.Common.{ap, ◌∙◌}
use Rattle.std.specs.Prelude.{Err}
use Rattle.sq_states.proofs.Prepared.{never_first}
use Rattle.sq_states.proofs.commit.prepare_run.Goals as goal

pub unreachable-requires : goal.unreachable-requires
unreachable-requires g c = never_first _ _ c.in-Err-Weight.field-0-0 c.requires (c.prepare.ensures.outside c.in-Err-Weight.field-0-0 (c.in-Err-Weight.is ∙ ap Err c.in-Err-Weight.field-0-is))
