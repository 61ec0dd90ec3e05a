use Rattle.std.proofs.Common.{refl, arith}
use Rattle.sq_plan.proofs.Adding.{appended}
use Rattle.sq_plan.proofs.draft.Draft.append.Goals as goal

pub returns : goal.returns
returns c = appended c.args.self.now _ _ c.len-number.result c.requires.room.draft c.requires.next refl c.in_ok-push.ensures.items (omega (arith, c.len-number.ensures, c.args.self.now.parts.ok.0))
