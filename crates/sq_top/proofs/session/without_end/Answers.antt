use Rattle.std.proofs.Common.{arith}
use Rattle.sq_ticks.specs.Programs.{HasFault}
use Rattle.sq_top.proofs.session.without_end.Goals as goal

pub returns-then-len-gt-LONGEST_TEXT : goal.returns-then-len-gt-LONGEST_TEXT
returns-then-len-gt-LONGEST_TEXT c = HasFault.no_end_too_long c.requires (omega (arith, c.if-len-gt-LONGEST_TEXT.true, c.len.ensures, c.args.text.now.bytes.ok.0))

pub returns-else-len-gt-LONGEST_TEXT : goal.returns-else-len-gt-LONGEST_TEXT
returns-else-len-gt-LONGEST_TEXT c = HasFault.no_end c.requires (omega (arith, c.if-len-gt-LONGEST_TEXT.false, c.len.ensures, c.args.text.now.bytes.ok.0))
