use Rattle.std.proofs.Common.{subst}
use Rattle.sq_incr.specs.Ends.{IsFirstOpen}
use Rattle.sq_incr.proofs.Answering.{is_short}
use Rattle.sq_incr.proofs.whole.judged.Goals as goal

pub returns-in-Some : goal.returns-in-Some
returns-in-Some c b = is_short c.len.ensures.sound b c.in-Some.task (subst (λ ls. IsFirstOpen ls c.in-Some.task) c.deref.ensures.value (c.first_missing-missing.ensures.some c.in-Some.task c.in-Some.is))
