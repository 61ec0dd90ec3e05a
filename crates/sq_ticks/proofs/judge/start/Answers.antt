use Rattle.std.proofs.Common.{Err, ap}
use Rattle.sq_ticks.proofs.Judging.{never_out, starts}
use Rattle.sq_ticks.proofs.judge.start.Goals as goal

pub returns-in-Ok-clause-starts : goal.returns-in-Ok-clause-starts
returns-in-Ok-clause-starts c = starts _ c.args.engine c.requires.plan c.in-Ok.ensures.engine c.in-Ok.ensures.ok

pub unreachable-requires : goal.unreachable-requires
unreachable-requires c =
    never_out c.args.program c.args.engine.circuit c.in-Err-Range.field-0-0 c.requires.plan c.requires.in_range
    (c.in-Err-Range.ensures.range c.in-Err-Range.field-0-0 (ap Err c.in-Err-Range.field-0-is))
